-- One call: what it was given, and what it gave. `Answered` is what every call's contract is to say of it.
use Rattle.std.specs.Prelude.{List, ℕ}
use Rattle.ledger.specs.declared.Call.{Call}
use Rattle.ledger.specs.Ledger.{decides}
use Rattle.session.specs.declared.Session.{Session}
use Rattle.answering.specs.Answer.{Spaces, spaces, Answers}
use Rattle.belaykeel.specs.Parameters
use Rattle.belaykeel.specs.Parameters.{Kind, AtEntry, AtExit, Passed, entering, leaving}

pub record Turn : Type 0 where
  pub call : Call
  pub session : Session
  pub sheet : List ℕ
  pub engine : ℕ
  pub order : List ℕ
  pub lent : Spaces
  pub number : ℕ
  pub session' : Session
  pub left : Spaces

abbrev pub Answered : Turn → Type 0
Answered t = Answers t.call t.session t.sheet t.engine t.order t.lent t.number t.session' t.left

-- ---- a turn, of the parameters as a contract has them at entry and at exit
abbrev turn : (ks : List Kind) → (Session → AtEntry ks (ℕ → Session → AtExit ks Turn))
    → Session → Passed ks → ℕ → Session → Passed ks → Turn
turn ks t s x n s' y = leaving ks (entering ks (t s) x n s') y

abbrev pub turn_of : Call → Session → (sheet : List ℕ) (engine : ℕ) (order offers rows memory : List ℕ)
    → ℕ → Session → (offers' rows' memory' : List ℕ) → Turn
turn_of c s sheet engine order offers rows memory n s' offers' rows' memory' = record {
  call = c;
  session = s;
  sheet = sheet;
  engine = engine;
  order = order;
  lent = spaces offers rows memory;
  number = n;
  session' = s';
  left = spaces offers' rows' memory';
}

-- the turn of a call that takes no more than every call does, of open, and of a call that takes a field and a position
abbrev pub plain : Call → Session → Passed Parameters.plain → ℕ → Session → Passed Parameters.plain → Turn
plain c = turn Parameters.plain (turn_of c)

abbrev pub opening : Session → Passed Parameters.opening → ℕ → Session → Passed Parameters.opening → Turn
opening = turn Parameters.opening (λ s sheet engine order selected. turn_of (Call.Open selected) s sheet engine order)

abbrev pub deciding : (kind : ℕ) → Session → Passed Parameters.deciding → ℕ → Session → Passed Parameters.deciding → Turn
deciding kind = turn Parameters.deciding (λ s sheet engine order field position. turn_of (decides kind field position) s sheet engine order)
