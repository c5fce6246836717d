-- A sheet taken in. Assumes nothing.
use Rattle.std.specs.Prelude.{◌≡◌, refl, List, ℕ, ◌≤◌, length, take, Result, Ok, Err}
use Rattle.limits.specs.Limits.{most_numbers}
use Rattle.limits.specs.declared.refusals.Refusal.{Refusal}
use Rattle.limits.specs.Refusals.{number}
use Rattle.masks.specs.Pick.{pick}
use Rattle.sheet.specs.Sources.{refusal, numbers, of_bytes, answer_of, Accepted, Gives, reading}
use Rattle.accepted.specs.declared.outline.Outline.{Outline}
use Rattle.accepted.specs.Outline.{outline_of}
use Rattle.accepted.specs.Accept.{bytes-accepted}
use Rattle.accepted.specs.Reads.{read-refused, read-accepted, read-front, read-ends}
use Rattle.ledger.specs.Causes.{number-some}
use Rattle.answering.specs.declared.intake.Intake.{Intake}

-- The sheet is accepted, the outline is the sheet's, and its numbers stand at the front of the memory.
pub record Taken (sheet : List ℕ) (t : Intake) (memory : List ℕ) : Type 0 where
  pub unrefused : refusal (of_bytes sheet) ≡ 0
  pub outline : t.outline ≡ outline_of (numbers (of_bytes sheet))
  pub front : take t.length memory ≡ numbers (of_bytes sheet)
  pub ends : t.length ≤ length memory

pub taken-accepted : (sheet : List ℕ) (t : Intake) (memory : List ℕ) → Taken sheet t memory → Accepted (take t.length memory)
taken-accepted sheet t memory k = rw k.front (bytes-accepted sheet k.unrefused)

-- It is taken so, or refused by its refusal.
abbrev pub TakenIn : List ℕ → Result Intake Refusal → List ℕ → Type 0
TakenIn sheet (Ok t) memory = Taken sheet t memory
TakenIn sheet (Err r) memory = number r ≡ refusal (of_bytes sheet)

module _ (sheet before : List ℕ) (room : most_numbers ≤ length before) (memory : List ℕ) where
  pub taken_refused : (r : Refusal) → Gives (reading sheet before) (answer_of (Err r)) memory → number r ≡ refusal (of_bytes sheet)
  taken_refused r g = (read-refused sheet before room _ memory g (number-some r)).0

  module _ (n : ℕ) (g : Gives (reading sheet before) (answer_of (Ok n)) memory) where
    pub taken-front : take n memory ≡ numbers (of_bytes sheet)
    unfolding pick
    taken-front = read-front sheet before room _ memory g refl

    pub taken-ends : n ≤ length memory
    unfolding pick
    taken-ends = read-ends sheet before room _ memory g refl

    pub taken-read : (o : Outline) → o ≡ outline_of (take n memory) → Taken sheet (record { length = n; outline = o }) memory
    taken-read o e = record {
      unrefused = read-accepted sheet before room _ memory g refl;
      outline = rw taken-front at e;
      front = taken-front;
      ends = taken-ends;
    }

    pub front-accepted : Accepted (take n memory)
    front-accepted = rw taken-front (bytes-accepted sheet (read-accepted sheet before room _ memory g refl))
