-- The parameters of a call after the session, as a list of kinds.
--     Kind                 a number, a slice that is only read, `&[uN]`, and a slice that is written, `&mut [uN]`
--     AtEntry, AtExit      what takes each parameter at entry, and what takes each `&mut` slice at exit, and gives an X
--     Passed               the parameters, as a contract has them at entry and at exit
--     entering, leaving    such a taker at them
--     plain                the parameters of a call that takes no more than every call does
--     opening, deciding    those of open, which takes the mask of the selected fields, and of a call that takes a field and a position
use Rattle.std.specs.Prelude.{List, [], ◌∷◌, ℕ}
use Rattle.std.specs.Int.{Width, w8, w32}
use Rattle.std.specs.Borrow.{Bor, MutBor}

pub data Kind : Type 0 where
  number shared lent : Width → Kind

abbrev pub AtEntry {ℓ} : List Kind → Type ℓ → Type ℓ
AtEntry [] X = X
AtEntry (number w ∷ ks) X = ℕ → AtEntry ks X
AtEntry (shared w ∷ ks) X = List ℕ → AtEntry ks X
AtEntry (lent w ∷ ks) X = List ℕ → AtEntry ks X

abbrev pub AtExit {ℓ} : List Kind → Type ℓ → Type ℓ
AtExit [] X = X
AtExit (number w ∷ ks) X = AtExit ks X
AtExit (shared w ∷ ks) X = AtExit ks X
AtExit (lent w ∷ ks) X = List ℕ → AtExit ks X

abbrev pub Passed : List Kind → Type 0
Passed [] = Unit {0}
Passed (number w ∷ ks) = ℕ × Passed ks
Passed (shared w ∷ ks) = Bor (List ℕ) × Passed ks
Passed (lent w ∷ ks) = MutBor (List ℕ) × Passed ks

abbrev pub entering {ℓ} : (ks : List Kind) {X : Type ℓ} → AtEntry ks X → Passed ks → X
entering [] f x = f
entering (number w ∷ ks) f x = entering ks (f x.0) x.1
entering (shared w ∷ ks) f x = entering ks (f x.0.now) x.1
entering (lent w ∷ ks) f x = entering ks (f x.0.now) x.1

abbrev pub leaving {ℓ} : (ks : List Kind) {X : Type ℓ} → AtExit ks X → Passed ks → X
leaving [] f x = f
leaving (number w ∷ ks) f x = leaving ks f x.1
leaving (shared w ∷ ks) f x = leaving ks f x.1
leaving (lent w ∷ ks) f x = leaving ks (f x.0.now) x.1

-- ---- sheet, engine, order, offers, rows, memory
abbrev pub plain : List Kind
plain = shared w8 ∷ number w32 ∷ shared w8 ∷ lent w32 ∷ lent w32 ∷ lent w32 ∷ []

-- sheet, engine, order, selected, offers, rows, memory
abbrev pub opening : List Kind
opening = shared w8 ∷ number w32 ∷ shared w8 ∷ number w32 ∷ lent w32 ∷ lent w32 ∷ lent w32 ∷ []

-- sheet, engine, order, field, position, offers, rows, memory
abbrev pub deciding : List Kind
deciding = shared w8 ∷ number w32 ∷ shared w8 ∷ number w32 ∷ number w32 ∷ lent w32 ∷ lent w32 ∷ lent w32 ∷ []
