-- The outline of a sheet: how many fields it has, and the set of all its settings. Assumes nothing.
use Rattle.std.specs.Prelude.{◌≡◌, true, false, ◌&&◌, List, ℕ, ◌+◌, ◌-◌, ◌≤◌, ◌<◌, length, get_or, set, replicate}
use Rattle.std.proofs.Common.{ap, ◌∙◌, ltb-true, ltb-false}
use Rattle.std.proofs.Math.Logic.{⊎_elim}
use Rattle.std.proofs.Math.Bool.{and-true}
use native.Mathlib.Omega.{arith}
use Rattle.std.proofs.Math.Dec.{ltb}
use Rattle.limits.specs.Limits.{most_fields, most_settings}
use Rattle.masks.specs.Tests.{bool_cases}
use Rattle.masks.proofs.Bits.{bit_of-zero}
use Rattle.masks.specs.Masks.{mask_of}
use Rattle.masks.proofs.Masks.{bit-mask_of}
use Rattle.masks.specs.Sets.{has, pad, get_d_pad}
use Rattle.sheet.specs.Sources.{Accepted}
use Rattle.accepted.specs.declared.outline.Outline.{Outline}
use Rattle.accepted.specs.Lists.{tabulate, get_d_tabulate, tabulate-past, Filling, filling-first, filling-next, filling-last}
use Rattle.accepted.specs.Parts.{fields_of, count_of}
use Rattle.accepted.specs.Facts.{facts}

-- the mask of every position of field f
abbrev pub settings_of : List ℕ → ℕ → ℕ
settings_of xs f = mask_of (count_of xs f) (λ v. true)

-- The outline of the sheet with the numbers xs: for each field the mask of its positions, 0 past its fields.
unfoldable pub outline_of : List ℕ → Outline
outline_of xs =
    record { fields = fields_of xs; full = pad (most_fields - fields_of xs) (tabulate (fields_of xs) (settings_of xs)) }

module _ (xs : List ℕ) where
  pub outline-few : Accepted xs → (outline_of xs).fields ≤ most_fields
  unfolding outline_of
  outline-few a = (facts xs a).fields-few

  pub full_at : (f : ℕ) → f < fields_of xs → get_or (outline_of xs).full f 0 ≡ settings_of xs f
  unfolding outline_of
  full_at f h =
      get_d_pad (most_fields - fields_of xs) (tabulate (fields_of xs) (settings_of xs)) f
      ∙ get_d_tabulate (fields_of xs) (settings_of xs) f h

  pub full-past : (f : ℕ) → fields_of xs ≤ f → get_or (outline_of xs).full f 0 ≡ 0
  unfolding outline_of
  full-past f h =
      get_d_pad (most_fields - fields_of xs) (tabulate (fields_of xs) (settings_of xs)) f
      ∙ tabulate-past (fields_of xs) (settings_of xs) f h

  -- a setting is on the sheet where its field and its position are
  pub full-has : (f v : ℕ) → has (outline_of xs).full f v ≡ (ltb f (fields_of xs) && ltb v (count_of xs f))
  unfolding has
  full-has f v = ⊎_elim
      (λ (q : ltb f (fields_of xs) ≡ true). rw (full_at f (ltb-true f (fields_of xs) q), q)
      (bit-mask_of (count_of xs f) (λ v. true) v ∙ and-true (ltb v (count_of xs f))))
      (λ (q : ltb f (fields_of xs) ≡ false). rw (full-past f (ltb-false f (fields_of xs) q), q) (bit_of-zero v))
      (bool_cases (ltb f (fields_of xs)))

-- ---- made field after field

-- The masks of the first f fields are made.
pub record Outlining (xs : List ℕ) (n f : ℕ) (full : List ℕ) : Type 0 where
  pub accepted : Accepted xs
  pub fields : n ≡ fields_of xs
  pub below : f ≤ n
  pub filling : Filling most_fields (settings_of xs) f full

pub outlining_first : (xs : List ℕ) (n : ℕ) → Accepted xs → n ≡ fields_of xs → Outlining xs n 0 (replicate most_fields 0)
outlining_first xs n a e = record { accepted = a; fields = e; below = omega arith; filling = filling-first most_fields (settings_of xs) }

module _ (xs : List ℕ) (n f : ℕ) (full : List ℕ) where
  module _ (p : Outlining xs n f full) (h : f < n) where
    pub outlining_field : (f < fields_of xs) × (f < most_fields) × (f < length full) × (count_of xs f ≤ most_settings)
    outlining_field =
        let e = p.fields in
        let l : f < fields_of xs = omega arith in
        let few = (facts xs p.accepted).fields-few in
        let s = p.filling.sized in
        (l, omega arith, omega arith, (facts xs p.accepted).count-few f l)

    pub outlining_next : (d x : ℕ) → d ≡ count_of xs f → x ≡ mask_of d (λ v. true) → Outlining xs n (f + 1) (set full f x)
    outlining_next d x q r = record {
      accepted = p.accepted;
      fields = p.fields;
      below = omega arith;
      filling = filling-next most_fields (settings_of xs) f x full outlining_field.1
          (r ∙ ap (λ (k : ℕ). mask_of k (λ v. true)) q) p.filling;
    }

  pub outlining_last : Outlining xs n f full → n ≤ f → record { fields = n; full = full } ≡ outline_of xs
  unfolding outline_of
  outlining_last p l =
      let e = p.fields in
      let few = (facts xs p.accepted).fields-few in
      let b = p.below in
      let k : f ≡ fields_of xs = omega arith in
      let m : full ≡ pad (most_fields - fields_of xs) (tabulate (fields_of xs) (settings_of xs)) =
      rw k at (filling-last most_fields (settings_of xs) f full (omega arith) p.filling) in
      rw (e, m)
