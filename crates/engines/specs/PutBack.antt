-- Engine 3, the queue method: the fields that a removal puts back on the queue. Assumes nothing.
use Rattle.std.specs.Prelude.{◌≡◌, refl, Bool, ◌&&◌, ◌||◌, cond, List, ℕ, ◌≤◌, ◌<◌, eqb, ltb, leb, get_or}
use Rattle.std.proofs.Common.{sym, ◌∙◌}
use Rattle.std.proofs.Math.Path.{ap}
use Rattle.std.proofs.Math.Logic.{⊎_elim}
use Rattle.std.proofs.Math.Bool.{true, false, or_assoc}
use Rattle.std.specs.Int.Bits.{bit_and, bit_or}
use borrow.Author.Tests.{eq-eqb, ne_eqb, lt-ltb, leb-true, leb-false, le-leb, lt-leb}
use Rattle.limits.specs.Limits.{most_fields, whole_reach}
use Rattle.masks.specs.Tests.{never, bool_cases, eq_cases, iff_eq, and_l, and_r, and-by, or_l, or_r, or_at}
use Rattle.masks.specs.Tests.{some_below, some_below-at, some_below-by}
use Rattle.masks.specs.Bits.{bit, Within}
use Rattle.masks.proofs.Bits.{bit_of-zero, bit_ext, bit_nonzero}
use Rattle.masks.specs.Masks.{mask_of}
use Rattle.masks.proofs.Masks.{bit-mask_of, mask_of_in, mask_of_bound}
use Rattle.masks.proofs.Loops.{mask_cong}
use Rattle.masks.specs.Words.{clear}
use Rattle.masks.proofs.Words.{bit-and, bit-or, clear_within, clear-other}
use Rattle.consistency.specs.Problem.{Problem, all_fields}
use Rattle.pruning.specs.Shrunk.{or-within}
use Rattle.engines.specs.Engine.{Hoods}

-- the mask of the first n fields
abbrev pub all_of : ℕ → ℕ
all_of n = mask_of n (λ g. true)

-- g is another field of the neighbourhood of a changed field
abbrev pub near_changed : (n : ℕ) (hood : List ℕ) (changed g : ℕ) → Bool
near_changed n hood changed g = some_below n (λ h. bit changed h && bit (clear (get_or hood h 0) h) g)

-- the fields on the queue, and the other fields of each changed field's neighbourhood
unfoldable pub with_others : (n : ℕ) (hood : List ℕ) (queue changed : ℕ) → ℕ
with_others n hood queue changed = mask_of n (λ g. bit queue g || near_changed n hood changed g)

-- The queue after the fields of `changed` lost settings: at the whole reach every selected field is put back, otherwise the selected ones
-- of the other fields of the neighbourhoods. Where no field lost one, it stays as it is.
unfoldable pub put_back : (n reach : ℕ) (hood : List ℕ) (selected queue changed : ℕ) → ℕ
put_back n reach hood selected queue changed =
    let others = bit_and (with_others n hood queue changed) selected in
    cond (eqb changed 0) queue (cond (leb whole_reach reach) selected others)

-- ---- the three cases

module _ (n reach : ℕ) (hood : List ℕ) (selected queue changed : ℕ) where
  pub back_none : changed ≡ 0 → put_back n reach hood selected queue changed ≡ queue
  unfolding put_back
  back_none z = rw (eq-eqb changed 0 z)

  pub back_all : (changed ≡ 0 → ⊥) → whole_reach ≤ reach → put_back n reach hood selected queue changed ≡ selected
  unfolding put_back
  back_all d h = rw (ne_eqb changed 0 d, le-leb whole_reach reach h)

  pub back-others : (changed ≡ 0 → ⊥) → reach < whole_reach
      → put_back n reach hood selected queue changed ≡ bit_and (with_others n hood queue changed) selected
  unfolding put_back
  back-others d h = rw (ne_eqb changed 0 d, lt-leb whole_reach reach h)

-- ---- what putting back asks: masks of the first n fields, and only selected fields on the queue

pub record BackAsks (n : ℕ) (hood : List ℕ) (selected queue changed : ℕ) : Type 0 where
  pub few : n ≤ most_fields
  pub selected-fields : Within selected (all_of n)
  pub queued : Within queue selected
  pub lost : Within changed (all_of n)
  pub hoods : (h : ℕ) → h < n → Within (get_or hood h 0) (all_of n)

-- masks of the problem's fields will do
pub back-asks : (P : Problem) (hood : List ℕ) → P.fields ≤ most_fields → Hoods P hood → (selected queue changed : ℕ)
    → Within selected (all_fields P) → Within queue selected → Within changed (all_fields P)
    → BackAsks P.fields hood selected queue changed
unfolding all_fields
back-asks P hood few hs selected queue changed s q c =
    record { few = few; selected-fields = s; queued = q; lost = c; hoods = hs.fields }

-- ---- as a loop adds the neighbourhoods, one changed field after the other

module _ (n : ℕ) (hood : List ℕ) (r : ℕ) where
  pub others-none : Within r (all_of n) → with_others n hood r 0 ≡ r
  unfolding with_others
  others-none w = bit_ext _ r (λ g. bit-mask_of n _ g ∙ iff_eq _ _ (λ e. ⊎_elim (λ q. q)
      (λ q. let s = some_below-at n _ q in absurd (never (and_l _ _ s.2) (bit_of-zero s.0)))
      (or_at (bit r g) _ (and_r (ltb g n) _ e)))
      (λ e. and-by _ _ (lt-ltb g n (mask_of_bound n _ g (w g e))) (or_l _ _ e)))

  -- the neighbourhood of one changed field and those of the others
  near_next : (left f g : ℕ) → bit left f ≡ true → f < n
      → near_changed n hood left g ≡ (bit (clear (get_or hood f 0) f) g || near_changed n hood (clear left f) g)
  near_next left f g b l = iff_eq _ _
      (λ e. let s = some_below-at n _ e in
      let was = and_l _ _ s.2 in
      let near = and_r (bit left s.0) _ s.2 in
      ⊎_elim (λ q. or_l _ _ (ap (λ (h : ℕ). bit (clear (get_or hood h 0) h) g) (sym q) ∙ near))
      (λ q. or_r (bit (clear (get_or hood f 0) f) g) _ (some_below-by n _ s.0 s.1 (and-by _ _ (clear-other left f s.0 q ∙ was) near)))
      (eq_cases s.0 f))
      (λ e. ⊎_elim (λ q. some_below-by n _ f l (and-by _ _ b q))
      (λ q. let s = some_below-at n _ q in
      some_below-by n _ s.0 s.1
      (and-by _ _ (clear_within left f s.0 (and_l _ _ s.2)) (and_r (bit (clear left f) s.0) _ s.2)))
      (or_at (bit (clear (get_or hood f 0) f) g) _ e))

  pub others-turn : (left f : ℕ) → bit left f ≡ true → f < n
      → with_others n hood (bit_or r (clear (get_or hood f 0) f)) (clear left f) ≡ with_others n hood r left
  unfolding with_others
  others-turn left f b l = mask_cong n _ _ (λ g _.
      ap (λ (t : Bool). t || near_changed n hood (clear left f) g) (bit-or r (clear (get_or hood f 0) f) g)
      ∙ or_assoc (bit r g) (bit (clear (get_or hood f 0) f) g) (near_changed n hood (clear left f) g)
      ∙ ap (λ (t : Bool). bit r g || t) (sym (near_next left f g b l)))

-- the changed fields of `left` are still to come
pub record Backing (n : ℕ) (hood : List ℕ) (queue changed left r : ℕ) : Type 0 where
  pub lefts : Within left changed
  pub small : Within r (all_of n)
  pub same : with_others n hood r left ≡ with_others n hood queue changed

module _ (n : ℕ) (hood : List ℕ) (selected queue changed : ℕ) (a : BackAsks n hood selected queue changed) where
  queued-fields : Within queue (all_of n)
  queued-fields v e = a.selected-fields v (a.queued v e)

  pub changed-low : (h : ℕ) → bit changed h ≡ true → h < n
  changed-low h c = mask_of_bound n (λ g. true) h (a.lost h c)

  pub backing_start : Backing n hood queue changed changed queue
  backing_start = record { lefts = λ v e. e; small = queued-fields; same = refl }

  pub backing_turn : (left r f : ℕ) → bit left f ≡ true → Backing n hood queue changed left r
      → Backing n hood queue changed (clear left f) (bit_or r (clear (get_or hood f 0) f))
  backing_turn left r f b p =
      let l = changed-low f (p.lefts f b) in
      record {
        lefts = λ v e. p.lefts v (clear_within left f v e);
        small = or-within r (clear (get_or hood f 0) f) (all_of n) p.small (λ v e. a.hoods f l v (clear_within (get_or hood f 0) f v e));
        same = others-turn n hood r left f b l ∙ p.same;
      }

  pub backing_end : (left r : ℕ) → left ≡ 0 → Backing n hood queue changed left r → r ≡ with_others n hood queue changed
  backing_end left r z p = sym (others-none n hood r p.small) ∙ ap (with_others n hood r) (sym z) ∙ p.same

-- ---- what is on the queue then

module _ (n reach : ℕ) (hood : List ℕ) (selected queue changed : ℕ) (a : BackAsks n hood selected queue changed) where
  abbrev others : ℕ
  others = bit_and (with_others n hood queue changed) selected

  -- a property of each of the three cases
  each_case : (A : ℕ → Type 0) → A queue → A selected → A others → A (put_back n reach hood selected queue changed)
  unfolding put_back
  each_case A p q r = go (eqb changed 0) (leb whole_reach reach)
    where
      go : (s t : Bool) → A (cond s queue (cond t selected others))
      go true t = p
      go false true = q
      go false false = r

  in_others : (g : ℕ) → bit selected g ≡ true → (bit queue g || near_changed n hood changed g) ≡ true → bit others g ≡ true
  unfolding with_others
  in_others g s e =
      bit-and (with_others n hood queue changed) selected g
      ∙ and-by _ _ (mask_of_in n _ g (mask_of_bound n (λ g. true) g (a.selected-fields g s)) ∙ e) s

  pub back-keeps : Within queue (put_back n reach hood selected queue changed)
  back-keeps = each_case (Within queue) (λ v e. e) a.queued (λ v e. in_others v (a.queued v e) (or_l _ _ e))

  pub back-small : Within (put_back n reach hood selected queue changed) selected
  back-small = each_case (λ (r : ℕ). Within r selected) a.queued (λ v e. e)
      (λ v e. and_r (bit (with_others n hood queue changed) v) _ (sym (bit-and (with_others n hood queue changed) selected v) ∙ e))

  -- the selected ones of the other fields of a changed field's neighbourhood are on it
  pub back-adds : (h g : ℕ) → bit changed h ≡ true → bit (get_or hood h 0) g ≡ true → (g ≡ h → ⊥) → bit selected g ≡ true
      → bit (put_back n reach hood selected queue changed) g ≡ true
  back-adds h g c y d s =
      let some = bit_nonzero changed h c in
      let low = changed-low n hood selected queue changed a h c in
      ⊎_elim (λ q. ap (λ (r : ℕ). bit r g) (back_all n reach hood selected queue changed some (leb-true whole_reach reach q)) ∙ s)
      (λ q. ap (λ (r : ℕ). bit r g) (back-others n reach hood selected queue changed some (leb-false whole_reach reach q))
      ∙ in_others g s
      (or_r (bit queue g) _ (some_below-by n _ h low (and-by _ _ c (clear-other (get_or hood h 0) h g d ∙ y)))))
      (bool_cases (leb whole_reach reach))
