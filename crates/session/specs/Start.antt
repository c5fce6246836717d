-- The start set, as code makes it from masks. Assumes nothing.
use Rattle.std.specs.Prelude.{◌≡◌, ◌⊎◌, Bool, true, false, not, ◌&&◌, List, ℕ, ◌-◌, ◌^◌, ◌<◌, eqb, get_or}
use Rattle.std.proofs.Math.Path.{refl, fun_ext}
use Rattle.std.proofs.Common.{sym, ap, ap₂, ◌∙◌, inl, inr, ⊎_elim, arith, eq-eqb, ne_eqb}
use Rattle.std.proofs.Math.Bool.{and-true, and-false}
use Rattle.std.specs.Int.Bits.{bit_and}
use Rattle.std.proofs.lemmas.Nat.{and_le_r}
use Rattle.limits.specs.Limits.{most_fields}
use Rattle.masks.specs.Tests.{never, not_so, eq_cases, and_l, and_r, and-by}
use Rattle.masks.specs.Bits.{bit}
use Rattle.masks.proofs.Bits.{bit_of-zero, bit_ext, bit_nonzero, bit-some}
use Rattle.masks.specs.Masks.{keep_bits, keep_bits_cong, some_bit}
use Rattle.masks.proofs.Masks.{bit-keep_bits, some_bit-at, some_bit-by}
use Rattle.masks.specs.Words.{clear, Lowest}
use Rattle.masks.proofs.Words.{bit-and, bit-and-not, bit-clear, clear-other}
use Rattle.masks.specs.Sets.{has, pad}
use Rattle.sheet.specs.Sources.{Accepted}
use Rattle.accepted.specs.declared.outline.Outline.{Outline}
use Rattle.accepted.specs.Lists.{tabulate, tabulate-pad}
use Rattle.accepted.specs.Parts.{fields_of}
use Rattle.accepted.specs.Facts.{facts}
use Rattle.accepted.specs.Outline.{outline_of, full-past}
use Rattle.ledger.specs.declared.Decision.{Decision}
use Rattle.ledger.specs.declared.Decision.TheVariants.{Choice, Strike}
use Rattle.ledger.specs.Ledger.{settings, other_chosen, starts, start_set}
use Rattle.session.specs.declared.decisions.Decisions.{Decisions}
use Rattle.session.specs.View.{decisions_of, in_force_of}

-- a chosen position other than v
abbrev pub other_bit : (all choices v : ℕ) → Bool
other_bit all choices v = some_bit all (λ u. bit choices u && not (eqb u v))

-- position v of a field with the positions `all` is in the start set
abbrev pub start_at : (all choices strikes v : ℕ) → Bool
start_at all choices strikes v = not (bit strikes v) && not (other_bit all choices v)

unfoldable pub start_mask : (all choices strikes : ℕ) → ℕ
start_mask all choices strikes = keep_bits all (start_at all choices strikes)

module _ (all choices strikes : ℕ) (wide : all < 2 ^ 32) (small : strikes < 2 ^ 32) where
  abbrev chosen : ℕ
  chosen = bit_and choices all

  chosen_at : (u : ℕ) → bit chosen u ≡ true → (bit choices u ≡ true) × (bit all u ≡ true)
  chosen_at u b = let e = sym (bit-and choices all u) ∙ b in (and_l _ _ e, and_r (bit choices u) _ e)

  chosen_by : (u : ℕ) → bit all u ≡ true → bit choices u ≡ true → bit chosen u ≡ true
  chosen_by u a b = bit-and choices all u ∙ and-by _ _ b a

  other_at : (v : ℕ) → other_bit all choices v ≡ true → (u : ℕ) × (bit chosen u ≡ true) × (u ≡ v → ⊥)
  other_at v e =
      let x = some_bit-at all (λ u. bit choices u && not (eqb u v)) e in
      (x.0, chosen_by x.0 x.1 (and_l _ _ x.2), λ q. never (and_r (bit choices x.0) _ x.2) (ap not (eq-eqb x.0 v q)))

  other-by : (v u : ℕ) → bit chosen u ≡ true → (u ≡ v → ⊥) → other_bit all choices v ≡ true
  other-by v u b n =
      let c = chosen_at u b in
      some_bit-by all (λ u. bit choices u && not (eqb u v)) u c.1 (and-by _ _ c.0 (ap not (ne_eqb u v n)))

  start-bit : (v : ℕ) → bit (start_mask all choices strikes) v ≡ (bit all v && start_at all choices strikes v)
  unfolding start_mask
  start-bit v = bit-keep_bits all (start_at all choices strikes) v

  -- no choice
  pub start-free : chosen ≡ 0 → bit_and all (2 ^ 32 - 1 - strikes) ≡ start_mask all choices strikes
  start-free z = bit_ext _ _ (λ v. bit-and-not 32 all strikes v wide small
      ∙ sym (start-bit v ∙ rw (none v) (ap (λ (b : Bool). bit all v && b) (and-true (not (bit strikes v))))))
    where
      none : (v : ℕ) → other_bit all choices v ≡ false
      none v = not_so (other_bit all choices v) (λ e. let x = other_at v e in bit_nonzero chosen x.0 x.1 z)

  chosen-small : chosen < 2 ^ 32
  chosen-small = let l = and_le_r choices all in omega arith

  module _ (w : ℕ) (lowest : Lowest chosen w) where
    -- one choice
    pub start-one : clear chosen w ≡ 0 → bit_and chosen (2 ^ 32 - 1 - strikes) ≡ start_mask all choices strikes
    start-one z = bit_ext _ _ (λ v. bit-and-not 32 chosen strikes v chosen-small small ∙ sym (start-bit v ∙ by v (eq_cases v w)))
      where
        only : (u : ℕ) → bit chosen u ≡ true → u ≡ w
        only u b = ⊎_elim (λ q. q) (λ q. absurd (bit_nonzero (clear chosen w) u (clear-other chosen w u q ∙ b) z)) (eq_cases u w)

        here : (v : ℕ) → v ≡ w → other_bit all choices v ≡ false
        here v q = not_so (other_bit all choices v) (λ e. let x = other_at v e in x.2 (only x.0 x.1 ∙ sym q))

        by : (v : ℕ) → (v ≡ w) ⊎ (v ≡ w → ⊥) → (bit all v && start_at all choices strikes v) ≡ (bit chosen v && not (bit strikes v))
        by v (inl q) =
            let b : bit chosen v ≡ true = ap (bit chosen) q ∙ lowest.set in
            rw (here v q, b, (chosen_at v b).1) (and-true (not (bit strikes v)))
        by v (inr q) =
            let n : bit chosen v ≡ false = not_so (bit chosen v) (λ e. q (only v e)) in
            rw (other-by v w lowest.set (λ y. q (sym y)), n)
            (ap (λ (b : Bool). bit all v && b) (and-false (not (bit strikes v))) ∙ and-false (bit all v))

    -- two or more
    pub start_none : (clear chosen w ≡ 0 → ⊥) → 0 ≡ start_mask all choices strikes
    start_none n = bit_ext _ _ (λ v. bit_of-zero v
        ∙ sym (start-bit v ∙ rw (some v) (ap (λ (b : Bool). bit all v && b) (and-false (not (bit strikes v))) ∙ and-false (bit all v))))
      where
        some : (v : ℕ) → other_bit all choices v ≡ true
        some v =
            let x = bit-some (clear chosen w) n in
            let c = sym (bit-clear chosen w x.0) ∙ x.1 in
            ⊎_elim
            (λ (q : x.0 ≡ v).
            other-by v w lowest.set (λ y. never (and_r (bit chosen x.0) _ c) (ap not (eq-eqb x.0 w (q ∙ sym y)))))
            (λ q. other-by v x.0 (and_l _ _ c) q)
            (eq_cases x.0 v)

-- ---- field after field

-- the ledger's start set, 0 past the sheet's fields
unfoldable pub start_masks : Outline → List Decision → List ℕ
start_masks o ds = tabulate most_fields (λ f. keep_bits (settings o f) (starts o ds f))

mask_is : (o : Outline) (d : Decisions) (f : ℕ)
    → start_mask (settings o f) (get_or d.choices f 0) (get_or d.strikes f 0) ≡ keep_bits (settings o f) (starts o (decisions_of d) f)
unfolding start_mask starts other_chosen has
mask_is o d f = keep_bits_cong (settings o f) _ _ (λ v. ap₂ (λ (a b : Bool). not a && not b) (sym (in_force_of d (Strike f v)))
    (ap (some_bit (settings o f)) (fun_ext (λ u. ap (λ (b : Bool). b && not (eqb u v)) (sym (in_force_of d (Choice f u)))))))

-- the mask of each field, from masks
abbrev pub mask_from : (full choices strikes : List ℕ) → ℕ → ℕ
mask_from full choices strikes f = start_mask (get_or full f 0) (get_or choices f 0) (get_or strikes f 0)

pub masks_are : (o : Outline) (d : Decisions)
    → tabulate most_fields (mask_from o.full d.choices d.strikes) ≡ start_masks o (decisions_of d)
unfolding start_masks
masks_are o d = ap (tabulate most_fields) (fun_ext (mask_is o d))

pub start-padded : (xs : List ℕ) → Accepted xs → (ds : List Decision)
    → start_masks (outline_of xs) ds ≡ pad (most_fields - fields_of xs) (start_set (outline_of xs) ds)
unfolding start_masks start_set
start-padded xs a ds =
    let o = outline_of xs in
    tabulate-pad most_fields (fields_of xs) (λ f. keep_bits (settings o f) (starts o ds f)) (facts xs a).fields-few
    (λ f h. bit_ext _ 0 (λ v. bit-keep_bits (settings o f) (starts o ds f) v
    ∙ ap (λ (m : ℕ). bit m v && starts o ds f v) (full-past xs f h) ∙ rw (bit_of-zero v))) ∙ same
  where
    same : pad (most_fields - fields_of xs)
        (tabulate (fields_of xs) (λ f. keep_bits (settings (outline_of xs) f) (starts (outline_of xs) ds f)))
        ≡ pad (most_fields - fields_of xs)
        (tabulate (outline_of xs).fields (λ f. keep_bits (settings (outline_of xs) f) (starts (outline_of xs) ds f)))
    same = unfold outline_of in refl
