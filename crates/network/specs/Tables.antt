-- The tables of a problem, and the problem that tables hold. Assumes nothing.
use Rattle.std.specs.Prelude.{◌≡◌, refl, Bool, true, false, ◌&&◌, cond, List, [], ℕ, ◌+◌, ◌-◌, ◌*◌, ◌≤◌, ◌<◌, ltb, length, get_or, take}
use Rattle.std.specs.Prelude.{drop}
use Rattle.std.proofs.Common.{arith, length-take, length-drop, take_all, lt-ltb, le-ltb, ltb-true, ltb-false}
use Rattle.limits.specs.Limits.{most_fields, most_settings, rows_words, table_words}
use Rattle.masks.specs.Bits.{bit}
use Rattle.consistency.specs.Problem.{Problem, Symmetric}
use Rattle.network.specs.Slots.{slot, slot_bound}

-- The two tables in one list of words: the forward one first, the turned one after it.
unfoldable pub forward_of : List ℕ → List ℕ
forward_of rows = take table_words rows

unfoldable pub turned_of : List ℕ → List ℕ
turned_of rows = drop table_words rows

pub tables-room : (rows : List ℕ) → rows_words ≤ length rows
    → (table_words ≤ length (forward_of rows)) × (table_words ≤ length (turned_of rows))
unfolding forward_of turned_of
tables-room rows h = (simp length-take (omega arith), simp length-drop (omega arith))

-- as code takes the turned one: all that comes after the forward one
pub turned-part : (rows : List ℕ) → take (length rows - table_words) (drop table_words rows) ≡ turned_of rows
unfolding turned_of
turned-part rows = take_all (length rows - table_words) (drop table_words rows) (simp length-drop (omega arith))

-- the rows of a slot of a table
abbrev pub slot_rows : List ℕ → ℕ → List ℕ
slot_rows table s = take most_settings (drop (s * most_settings) table)

-- The rows of the settings of g towards f: row v has the positions of f that g's position v is allowed beside. They are in the forward
-- table where g is the lower field, and else in the turned one.
unfoldable pub rows_of : List ℕ → List ℕ → ℕ → ℕ → List ℕ
rows_of forward turned g f = cond (ltb g f) (slot_rows forward (slot g f)) (slot_rows turned (slot f g))

-- as code takes them, s being the slot
pub rows_of-lower : (forward turned : List ℕ) (g f s : ℕ) → g < f → s ≡ slot g f
    → take (s * most_settings + most_settings - s * most_settings) (drop (s * most_settings) forward) ≡ rows_of forward turned g f
unfolding rows_of
rows_of-lower forward turned g f s h e =
    let k : s * most_settings + most_settings - s * most_settings ≡ most_settings = omega arith in
    rw (k, e, lt-ltb g f h)

pub rows_of_higher : (forward turned : List ℕ) (g f s : ℕ) → f ≤ g → s ≡ slot f g
    → take (s * most_settings + most_settings - s * most_settings) (drop (s * most_settings) turned) ≡ rows_of forward turned g f
unfolding rows_of
rows_of_higher forward turned g f s h e =
    let k : s * most_settings + most_settings - s * most_settings ≡ most_settings = omega arith in
    rw (k, e, le-ltb g f h)

pub rows_of-length : (forward turned : List ℕ) (g f : ℕ) → g < most_fields → f < most_fields → (g ≡ f → ⊥)
    → table_words ≤ length forward → table_words ≤ length turned → length (rows_of forward turned g f) ≡ most_settings
unfolding rows_of
rows_of-length forward turned g f a b d h k = go (ltb g f) refl
  where
    go : (t : Bool) → ltb g f ≡ t → length (cond t (slot_rows forward (slot g f)) (slot_rows turned (slot f g))) ≡ most_settings
    go true e = let s = slot_bound g f (ltb-true g f e) b in simp (length-take, length-drop) (omega arith)
    go false e = let s = slot_bound f g (let l = ltb-false g f e in omega arith) a in simp (length-take, length-drop) (omega arith)

-- The problem of the rules over two fields that the tables hold for n fields: `joined` has for each field the mask of the fields that a
-- rule
-- joins to it.
unfoldable pub rule_problem : ℕ → List ℕ → List ℕ → List ℕ → Problem
rule_problem n joined forward turned = record {
  fields = n;
  joined = λ f g. bit (get_or joined f 0) g;
  allowed = λ f g v u. bit (get_or joined f 0) g && bit (get_or (rows_of forward turned f g) v 0) u;
  sheet = [];
  triples = [];
}

-- What the engines ask of tables.
pub record Wired (n : ℕ) (joined forward turned : List ℕ) : Type 0 where
  pub few : n ≤ most_fields
  pub forwards : table_words ≤ length forward
  pub turneds : table_words ≤ length turned
  pub ends : (f g : ℕ) → bit (get_or joined f 0) g ≡ true → (f < n) × (g < n) × (f ≡ g → ⊥)
  pub symmetric : Symmetric (rule_problem n joined forward turned)
