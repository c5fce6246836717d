-- Of a case for each function, that no call is left out. Assumes nothing.
use Rattle.std.specs.Prelude.{List, ℕ, zero, suc, ◌≤◌}
use Rattle.std.proofs.Common.{arith}
use Rattle.ledger.specs.declared.Call.{Call}
use Rattle.ledger.specs.Ledger.{CHOOSE, STRIKE, WITHDRAW_CHOICE, WITHDRAW_STRIKE, decides}
use Rattle.session.specs.declared.Session.{Session}
use Rattle.belaykeel.specs.Parameters
use Rattle.belaykeel.specs.Parameters.{Passed}
use Rattle.theorem.specs.Turns.{Turn, Answered, turn_of}
use Rattle.theorem.specs.EveryCall.{Kinded, EveryCall, PlainCase, OpeningCase, DecidingCase, Cases, lends, lends_mut}

module _ (Called : Turn → Type 0) (k : Cases Called) (s : Session) (sheet : List ℕ) (engine : ℕ) (order offers rows memory : List ℕ)
    (n : ℕ) (s' : Session) (offers' rows' memory' : List ℕ) where
  abbrev short : List ℕ → List ℕ → List ℕ → Passed Parameters.plain
  short a b c = (lends sheet, (engine, (lends order, (lends_mut a, (lends_mut b, (lends_mut c, tt))))))

  abbrev masked : ℕ → List ℕ → List ℕ → List ℕ → Passed Parameters.opening
  masked selected a b c = (lends sheet, (engine, (lends order, (selected, (lends_mut a, (lends_mut b, (lends_mut c, tt)))))))

  abbrev long : (f v : ℕ) → List ℕ → List ℕ → List ℕ → Passed Parameters.deciding
  long f v a b c = (lends sheet, (engine, (lends order, (f, (v, (lends_mut a, (lends_mut b, (lends_mut c, tt))))))))

  abbrev turn_by : Call → Turn
  turn_by c = turn_of c s sheet engine order offers rows memory n s' offers' rows' memory'

  abbrev In : Call → Type 0
  In c = Answered (turn_by c) → Called (turn_by c)

  abbrev plainly : (c : Call) → PlainCase Called c → In c
  plainly c case = case s (short offers rows memory) n s' (short offers' rows' memory')

  abbrev openly : (selected : ℕ) → OpeningCase Called → In (Call.Open selected)
  openly selected case = case s (masked selected offers rows memory) n s' (masked selected offers' rows' memory')

  abbrev decidingly : (kind f v : ℕ) → DecidingCase Called kind → In (decides kind f v)
  decidingly kind f v case = case s (long f v offers rows memory) n s' (long f v offers' rows' memory')

  every-kind : (kind f v : ℕ) → CHOOSE ≤ kind → kind ≤ WITHDRAW_STRIKE → In (decides kind f v)
  every-kind zero f v a b = absurd (omega arith)
  every-kind (suc zero) f v a b = decidingly CHOOSE f v k.chooses
  every-kind (suc (suc zero)) f v a b = decidingly STRIKE f v k.strikes
  every-kind (suc (suc (suc zero))) f v a b = decidingly WITHDRAW_CHOICE f v k.withdraws-choice
  every-kind (suc (suc (suc (suc zero)))) f v a b = decidingly WITHDRAW_STRIKE f v k.withdraws-strike
  every-kind (suc (suc (suc (suc (suc kind))))) f v a b = absurd (omega arith)

  every-by : (c : Call) → Kinded c → In c
  every-by (Call.Open selected) _ = openly selected k.opens
  every-by Call.Show _ = plainly Call.Show k.shows
  every-by (Call.Decide e) q = every-kind e.kind e.field e.position q.0 q.1
  every-by Call.Back _ = plainly Call.Back k.goes_back
  every-by Call.CoilOn _ = plainly Call.CoilOn k.coils_on

pub every : (Called : Turn → Type 0) → Cases Called → EveryCall Called
every Called k c q s sheet engine order offers rows memory n s' offers' rows' memory' =
    every-by Called k s sheet engine order offers rows memory n s' offers' rows' memory' c q
