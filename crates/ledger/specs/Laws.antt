-- Decisions and ledgers that a call cannot tell apart. Assumes nothing.
use Rattle.std.specs.Prelude.{◌≡◌, List}
use Rattle.ledger.specs.declared.Decision.{Decision}
use Rattle.ledger.specs.Ledger.{in_force, Ledger}

-- the same decisions in force
abbrev pub Alike : List Decision → List Decision → Type 0
Alike ds es = (d : Decision) → in_force ds d ≡ in_force es d

-- the same decisions in force, the same events, the same selected fields
pub record SameLedger (l m : Ledger) : Type 0 where
  pub held : Alike l.decisions m.decisions
  pub past : l.events ≡ m.events
  pub selected : l.selected ≡ m.selected
