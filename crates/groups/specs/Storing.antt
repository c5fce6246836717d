-- Values stored one after the other over a list. Assumes nothing.
use Rattle.std.specs.Prelude.{◌≡◌, refl, List, [], ◌∷◌, ◌++◌, ℕ, suc, ◌+◌, ◌≤◌, length, drop, set}
use Rattle.std.proofs.Common.{sym, ap, ◌∙◌, add-suc, suc-add, add-zero, zero-add, add-one, arith, length-set, length-append}
use Rattle.std.proofs.lemmas.List.Edits.{sets, sets-eq}
use Rattle.std.proofs.Math.Seq.{length-sets}

sets_append : (out : List ℕ) (i : ℕ) (xs ys : List ℕ) → sets out i (xs ++ ys) ≡ sets (sets out i xs) (i + length xs) ys
sets_append out i [] ys = ap (λ (k : ℕ). sets out k ys) (sym (add-zero i))
sets_append out i (x ∷ xs) ys =
    sets_append (set out i x) (suc i) xs ys
    ∙ ap (λ (k : ℕ). sets (sets (set out i x) (suc i) xs) k ys) (suc-add i (length xs) ∙ sym (add-suc i (length xs)))

-- Over `out₀`, from place `from`, go the values `all`: `out` holds those before place i, and `rest` are to come.
pub record Storing (out : List ℕ) (i : ℕ) (rest out₀ : List ℕ) (from : ℕ) (all : List ℕ) : Type 0 where
  pub stored : sets out i rest ≡ sets out₀ from all
  pub ends : i + length rest ≡ from + length all
  pub size : length out ≡ length out₀

pub storing_none : (out : List ℕ) (from : ℕ) (all : List ℕ) → Storing out from all out from all
storing_none out from all = record { stored = refl; ends = refl; size = refl }

module _ {out : List ℕ} {i : ℕ} {rest out₀ : List ℕ} {from : ℕ} {all js : List ℕ} where
  pub storing_one : (x : ℕ) → js ≡ x ∷ rest → Storing out i js out₀ from all → Storing (set out i x) (i + 1) rest out₀ from all
  storing_one x e g = record {
    stored = rw add-one (sym (ap (λ (l : List ℕ). sets out i l) e) ∙ g.stored);
    ends = omega (arith, g.ends, ap length e);
    size = length-set out i x ∙ g.size;
  }

  pub storing_part : (xs after : List ℕ) → js ≡ xs ++ rest → after ≡ sets out i xs
      → Storing out i js out₀ from all → Storing after (i + length xs) rest out₀ from all
  storing_part xs after e q g = record {
    stored = rw q (sym (sets_append out i xs rest) ∙ sym (ap (λ (l : List ℕ). sets out i l) e) ∙ g.stored);
    ends = omega (arith, g.ends, ap length e, length-append xs rest);
    size = ap length q ∙ length-sets out i xs ∙ g.size;
  }

pub storing_done : {out : List ℕ} {i : ℕ} {out₀ : List ℕ} {from : ℕ} {all js : List ℕ} → js ≡ [] → Storing out i js out₀ from all
    → out ≡ sets out₀ from all
storing_done {out} {i} e g = sym (ap (λ (l : List ℕ). sets out i l) e) ∙ g.stored

-- at most as many values as places: they are in front
pub sets_front : (out all : List ℕ) → length all ≤ length out → sets out 0 all ≡ all ++ drop (length all) out
sets_front out all h = sets-eq all out 0 (rw zero-add h) ∙ ap (λ (k : ℕ). all ++ drop k out) (zero-add (length all))
