-- What demand 3 says of a sequence of calls: after every call, number, decisions, events, selected fields and offers are those of the
-- ledger, which is fed the calls and what they are given, and never the session. Assumes nothing.
use Rattle.std.specs.Prelude.{◌≡◌, List, [], ◌∷◌, ℕ, take, drop}
use Rattle.sheet.specs.Sources.{numbers, of_bytes}
use Rattle.accepted.specs.Parts.{fields_of}
use Rattle.ledger.specs.declared.Decision.{Decision}
use Rattle.ledger.specs.Ledger.{Ledger, Given, in_force, offers_of, number, after}
use Rattle.session.specs.Decisions.{held_in}
use Rattle.session.specs.View.{past}
use Rattle.answering.specs.Answer.{given}
use Rattle.theorem.specs.Turns.{Turn}

-- what the ledger is fed of a call
abbrev pub given_to : Turn → Given
given_to t = given t.sheet t.engine t.order t.lent

-- the sheet's numbers, how many fields it has, and the ledger after the call
abbrev pub numbers_of : Turn → List ℕ
numbers_of t = numbers (of_bytes t.sheet)

abbrev pub fields : Turn → ℕ
fields t = fields_of (numbers_of t)

abbrev pub next : Ledger → Turn → Ledger
next l t = after (given_to t) t.call l

-- One call goes as the ledger says.
pub record Agrees (l : Ledger) (t : Turn) : Type 0 where
  -- its number is the ledger's
  pub numbered : t.number ≡ number (given_to t) t.call l
  -- the decisions in force, as a set, and the events in their order, the latest first
  pub decided : (d : Decision) → held_in t.session'.decisions d ≡ in_force (next l t).decisions d
  pub happened : past t.session'.events t.session'.count ≡ (next l t).events
  -- the mask of the selected fields
  pub selects : t.session'.selected ≡ (next l t).selected
  -- where the number is 0, the n masks written are the ledger's offers after the step, and later words are untouched
  pub shown : t.number ≡ 0 → take (fields t) t.left.offers ≡ offers_of (numbers_of t) (next l t)
  pub untouched : t.number ≡ 0 → drop (fields t) t.left.offers ≡ drop (fields t) t.lent.offers
  -- a refused call left its offers list as it was
  pub kept : (t.number ≡ 0 → ⊥) → t.left.offers ≡ t.lent.offers

-- All calls of a sequence, one after the other.
pub data Follows : Ledger → List Turn → Type 0 where
  ends : {l : Ledger} → Follows l []
  goes : {l : Ledger} {t : Turn} {ts : List Turn} → Agrees l t → Follows (next l t) ts → Follows l (t ∷ ts)
