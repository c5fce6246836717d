-- Some fields lose settings, one field after the other, and what they lose enters the removal list. Assumes nothing.
use Rattle.std.specs.Prelude.{◌≡◌, refl, ◌⊎◌, Bool, true, not, ◌&&◌, ℕ, zero, suc, ◌+◌, ◌^◌, ◌≤◌, ◌<◌, eqb, length, get_or}
use Rattle.std.proofs.Common.{sym, ◌∙◌, inl, inr, true≢false, eq-or-lt_of_le, le_of_suc-le-suc, add-one, arith, eqb-true, eq-eqb, ne_eqb}
use Rattle.std.proofs.Math.Path.{ap}
use Rattle.std.proofs.Math.Logic.{⊎_elim}
use Rattle.std.proofs.Math.Bool.{false, and-true, and-false}
use mathlib.Core.List.{List}
use Rattle.std.specs.Int.Bits.{bit_and, bit_or}
use Rattle.std.proofs.lemmas.Bool.{not-false}
use Rattle.limits.specs.Limits.{most_fields, list_places}
use Rattle.masks.specs.Tests.{never, not_so, bool_cases, eq_cases, and_l, and_r, and-by, or_l, or_r, or_at}
use Rattle.masks.specs.Bits.{bit, Within}
use Rattle.masks.proofs.Bits.{bit_of-zero, bit_ext, bit-some, bit_bound}
use Rattle.masks.specs.Words.{clear}
use Rattle.masks.proofs.Words.{bit-and, bit-or, bit-one, clear_within, clear-same, clear-other}
use Rattle.masks.specs.Sets.{has, ◌⊆◌, only, length-only, count}
use Rattle.masks.proofs.Sets.{has_ext, ⊆_mask, has-only}
use Rattle.masks.specs.Settings.{empty}
use Rattle.masks.proofs.Settings.{empty-at, empty-by, empty-not}
use Rattle.removal_list.specs.Count.{Small}
use Rattle.removal_list.specs.Moved.{Moved, moved_none, moved_then, without, has-without, length_without}
use Rattle.pruning.specs.Shrunk.{or-within, one-within, small_⊆, Shrunk, shrunk-none, shrunk-then}

-- the fields of near without the settings of `none`
unfoldable pub dropped : ℕ → List ℕ → List ℕ → List ℕ
dropped near none D = only (λ f a. not (bit near f && has none f a)) D

pub has-dropped : (near : ℕ) (none D : List ℕ) (f a : ℕ) → has (dropped near none D) f a ≡ (has D f a && not (bit near f && has none f a))
unfolding dropped
has-dropped near none D f a = has-only _ D f a

-- the settings of the first k fields that are in both, by their positions
unfoldable pub both_below : ℕ → List ℕ → List ℕ → ℕ
both_below zero D none = 0
both_below (suc k) D none = bit_or (both_below k D none) (bit_and (get_or D k 0) (get_or none k 0))

pub both-none : (D none : List ℕ) → both_below 0 D none ≡ 0
unfolding both_below
both-none D none = refl

pub both-next : (k : ℕ) (D none : List ℕ)
    → both_below (k + 1) D none ≡ bit_or (both_below k D none) (bit_and (get_or D k 0) (get_or none k 0))
unfolding both_below
both-next k D none = rw add-one

both_at : (k a : ℕ) (D none : List ℕ) → bit (both_below k D none) a ≡ true
    → (f : ℕ) × (f < k) × (has D f a ≡ true) × (has none f a ≡ true)
unfolding both_below has
both_at zero a D none e = absurd (never e (bit_of-zero a))
both_at (suc k) a D none e =
    ⊎_elim
    (λ x. let r = both_at k a D none x in let l = r.1 in (r.0, omega arith, r.2, r.3))
    (λ x. let y = sym (bit-and (get_or D k 0) (get_or none k 0) a) ∙ x in (k, omega arith, and_l _ _ y, and_r (bit (get_or D k 0) a) _ y))
    (or_at (bit (both_below k D none) a) _ (sym (bit-or (both_below k D none) (bit_and (get_or D k 0) (get_or none k 0)) a) ∙ e))

both_by : (k a : ℕ) (D none : List ℕ) (f : ℕ) → f < k → has D f a ≡ true → has none f a ≡ true → bit (both_below k D none) a ≡ true
unfolding both_below has
both_by zero a D none f l x y = absurd (omega arith)
both_by (suc k) a D none f l x y =
    bit-or (both_below k D none) (bit_and (get_or D k 0) (get_or none k 0)) a
    ∙ ⊎_elim
    (λ (q : f ≡ k). or_r (bit (both_below k D none) a) _ (bit-and (get_or D k 0) (get_or none k 0) a ∙ and-by _ _ (rw q at x) (rw q at y)))
    (λ q. or_l _ _ (both_by k a D none f q x y)) (eq-or-lt_of_le (le_of_suc-le-suc l))

-- whether a setting of the first k fields is in both
unfoldable pub meets : ℕ → List ℕ → List ℕ → Bool
meets k D none = not (eqb (both_below k D none) 0)

pub meets_at : (k : ℕ) (D none : List ℕ) → meets k D none ≡ true
    → (f : ℕ) × (a : ℕ) × (f < k) × (has D f a ≡ true) × (has none f a ≡ true)
unfolding meets
meets_at k D none e =
    let b = bit-some (both_below k D none) (λ z. never e (ap not (eq-eqb _ 0 z))) in
    let r = both_at k b.0 D none b.1 in
    (r.0, b.0, r.1, r.2, r.3)

pub meets-not : (k : ℕ) (D none : List ℕ) → meets k D none ≡ false → (f a : ℕ) → f < k → has D f a ≡ true → has none f a ≡ false
unfolding meets
meets-not k D none e f a l x =
    not_so (has none f a) (λ y. never (both_by k a D none f l x y)
    (ap (λ (m : ℕ). bit m a) (eqb-true (both_below k D none) 0 (not-false _ e)) ∙ bit_of-zero a))

-- one field lost settings
pub shrunk-without : (D : List ℕ) (i gone : ℕ) → Within gone (get_or D i 0) → (gone ≡ 0 → ⊥) → Shrunk D (without D i gone) (2 ^ i)
unfolding has
shrunk-without D i gone w d = record { sized = length_without D i gone; inside = inside; same = same; less = less }
  where
    inside : without D i gone ⊆ D
    inside g a e = and_l _ _ (sym (has-without D i gone g a) ∙ e)

    same : (g : ℕ) → bit (2 ^ i) g ≡ false → get_or (without D i gone) g 0 ≡ get_or D g 0
    same g e =
        bit_ext (get_or (without D i gone) g 0) (get_or D g 0)
        (λ a. has-without D i gone g a ∙ rw (sym (bit-one i g) ∙ e) (and-true (bit (get_or D g 0) a)))

    less : (g : ℕ) → bit (2 ^ i) g ≡ true → get_or (without D i gone) g 0 < get_or D g 0
    less g e =
        let q : g ≡ i = eqb-true g i (sym (bit-one i g) ∙ e) in
        let x = bit-some gone d in
        let l = ⊆_mask (without D i gone) D inside g in
        let n : get_or (without D i gone) g 0 ≡ get_or D g 0 → ⊥ = λ z.
        never (ap (λ (y : ℕ). bit y x.0) z ∙ rw q (w x.0 x.1))
        (has-without D i gone g x.0 ∙ rw (q, eq-eqb i i refl, x.1) (and-false (bit (get_or D i 0) x.0))) in
        omega arith

module _ (near : ℕ) (none D L : List ℕ) (t : ℕ) where
  -- the fields of `left` are still to come

  pub record Dropping (left lost : ℕ) (R K : List ℕ) (u : ℕ) : Type 0 where
    pub made : (f a : ℕ) → has R f a ≡ (has D f a && not ((bit near f && not (bit left f)) && has none f a))
    pub lefts : Within left near
    pub marks : Within lost near
    pub moved : Moved D L t R K u
    pub shrunk : Shrunk D R lost
    pub full : (f : ℕ) → empty D f ≡ false → empty R f ≡ false

  -- What the fields of near have become, or that one of them has nothing left. What left the set entered the list, either way.
  pub record Dropped (wiped : Bool) (lost : ℕ) (R K : List ℕ) (u : ℕ) : Type 0 where
    pub moved : Moved D L t R K u
    pub made : wiped ≡ false → R ≡ dropped near none D
    pub marks : wiped ≡ false → Within lost near
    pub shrunk : wiped ≡ false → Shrunk D R lost
    pub full : wiped ≡ false → (f : ℕ) → empty D f ≡ false → empty R f ≡ false
    pub emptied : wiped ≡ true → (f : ℕ) × (bit near f ≡ true) × (empty (dropped near none D) f ≡ true)

  -- nothing of `none` is there
  pub dropped-none : ((f a : ℕ) → bit near f ≡ true → has D f a ≡ true → has none f a ≡ false) → Dropped false 0 D L t
  dropped-none h = record {
    moved = moved_none D L t;
    made = λ _. sym (has_ext _ D (length-dropped)
        (λ f a. has-dropped near none D f a ∙ stays f a (bool_cases (has D f a)) (bool_cases (bit near f))));
    marks = λ _ v e. absurd (never e (bit_of-zero v));
    shrunk = λ _. shrunk-none D;
    full = λ _ f e. e;
    emptied = λ e. absurd (true≢false (sym e));
  }
    where
      length-dropped : length (dropped near none D) ≡ length D
      length-dropped = unfold dropped in length-only _ D

      stays : (f a : ℕ) → (has D f a ≡ true) ⊎ (has D f a ≡ false) → (bit near f ≡ true) ⊎ (bit near f ≡ false)
          → (has D f a && not (bit near f && has none f a)) ≡ has D f a
      stays f a (inl x) (inl y) = rw (x, y, h f a y x)
      stays f a (inl x) (inr y) = rw (x, y)
      stays f a (inr x) y = rw x

  pub dropping_start : Dropping near 0 D L t
  dropping_start = record {
    made = λ f a. sym (rw (none_passed (bit near f)) (and-true (has D f a)));
    lefts = λ v e. e;
    marks = λ v e. absurd (never e (bit_of-zero v));
    moved = moved_none D L t;
    shrunk = shrunk-none D;
    full = λ f e. e;
  }
    where
      none_passed : (b : Bool) → (b && not b) ≡ false
      none_passed true = refl
      none_passed false = refl

  pub dropping_end : (left lost : ℕ) (R K : List ℕ) (u : ℕ) → left ≡ 0 → Dropping left lost R K u → Dropped false lost R K u
  dropping_end left lost R K u z p = record {
    moved = p.moved;
    made = λ _. has_ext R _ (p.moved.sized ∙ sym (unfold dropped in length-only _ D))
        (λ f a. p.made f a ∙ rw (z, bit_of-zero f, and-true) (sym (has-dropped near none D f a)));
    marks = λ _. p.marks;
    shrunk = λ _. p.shrunk;
    full = λ _. p.full;
    emptied = λ e. absurd (true≢false (sym e));
  }

  module _ (left lost : ℕ) (R K : List ℕ) (u i gone : ℕ) (p : Dropping left lost R K u) (b : bit left i ≡ true)
      (k : gone ≡ bit_and (get_or R i 0) (get_or none i 0)) where
    lefts-clear : Within (clear left i) near
    lefts-clear v e = p.lefts v (clear_within left i v e)

    -- a field that is still to come is as it was
    coming : (a : ℕ) → has R i a ≡ has D i a
    coming a = p.made i a ∙ rw (b, and-false (bit near i)) (and-true (has D i a))

    bit-gone : (a : ℕ) → bit gone a ≡ (has D i a && has none i a)
    unfolding has
    bit-gone a =
        ap (λ (x : ℕ). bit x a) k ∙ bit-and (get_or R i 0) (get_or none i 0) a ∙ ap (λ (x : Bool). x && bit (get_or none i 0) a) (coming a)

    pub gone-within : Within gone (get_or R i 0)
    unfolding has
    gone-within a e = coming a ∙ and_l _ _ (sym (bit-gone a) ∙ e)

    made-next : (f a : ℕ) → has (without R i gone) f a ≡ (has D f a && not ((bit near f && not (bit (clear left i) f)) && has none f a))
    made-next f a = ⊎_elim (λ q. rw q (here a))
        (λ q. has-without R i gone f a ∙ rw (ne_eqb f i q, and-true, clear-other left i f q) (p.made f a)) (eq_cases f i)
      where
        apart : (x y : Bool) → (x && not (x && y)) ≡ (x && not y)
        apart true y = refl
        apart false y = refl

        here : (a : ℕ) → has (without R i gone) i a ≡ (has D i a && not ((bit near i && not (bit (clear left i) i)) && has none i a))
        here a =
            has-without R i gone i a ∙ rw (eq-eqb i i refl, coming a, bit-gone a, p.lefts i b, clear-same left i)
            (apart (has D i a) (has none i a))

    -- nothing of the field goes
    pub dropping_skip : gone ≡ 0 → Dropping (clear left i) lost R K u
    dropping_skip z = record {
      made = λ f a. same f a ∙ made-next f a;
      lefts = lefts-clear;
      marks = p.marks;
      moved = p.moved;
      shrunk = p.shrunk;
      full = p.full;
    }
      where
        same : (f a : ℕ) → has R f a ≡ has (without R i gone) f a
        same f a = sym (has-without R i gone f a ∙ rw (z, bit_of-zero a, and-false (eqb f i)) (and-true (has R f a)))

    -- what `move_out` asks
    pub move_asks : Small D → near < 2 ^ most_fields → t + count D ≤ list_places
        → (Small R × (i < most_fields) × Within gone (get_or R i 0) × (u + count R ≤ list_places))
        × (length D ≡ most_fields → length R ≡ most_fields) × (length L ≡ list_places → length K ≡ list_places)
    move_asks s l c = (
      (
        small_⊆ D R p.moved.inside s,
        bit_bound most_fields near i l (p.lefts i b),
        gone-within,
        (let r = p.moved.room in omega arith),
      ),
      (λ n. p.moved.sized ∙ n),
      (λ h. p.moved.long ∙ h),
    )

    module _ (Q M : List ℕ) (w : ℕ) (m : Moved R K u Q M w) (e : Q ≡ without R i gone) (d : gone ≡ 0 → ⊥) where
      -- some of it goes, and some is left
      pub dropping_turn : (get_or Q i 0 ≡ 0 → ⊥) → Dropping (clear left i) (bit_or lost (2 ^ i)) Q M w
      unfolding empty
      dropping_turn z = record {
        made = λ f a. ap (λ (X : List ℕ). has X f a) e ∙ made-next f a;
        lefts = lefts-clear;
        marks = or-within lost (2 ^ i) near p.marks (one-within near i (p.lefts i b));
        moved = moved_then p.moved m;
        shrunk = shrunk-then p.shrunk (rw e (shrunk-without R i gone gone-within d));
        full = λ f h. ⊎_elim (λ q. rw q (ne_eqb (get_or Q i 0) 0 z)) (λ q. other f (p.full f h) q) (eq_cases f i);
      }
        where
          other : (f : ℕ) → empty R f ≡ false → (f ≡ i → ⊥) → empty Q f ≡ false
          other f h q =
              let x = empty-not R f h in
              not_so (empty Q f) (λ y. never
              (ap (λ (X : List ℕ). has X f x.0) e ∙ has-without R i gone f x.0 ∙ rw (ne_eqb f i q, and-true) x.1)
              (empty-at Q f x.0 y))

      -- nothing is left of it
      pub dropping_none : get_or Q i 0 ≡ 0 → (any : ℕ) → Dropped true any Q M w
      unfolding empty
      dropping_none z any = record {
        moved = moved_then p.moved m;
        made = λ q. absurd (true≢false q);
        marks = λ q. absurd (true≢false q);
        shrunk = λ q. absurd (true≢false q);
        full = λ q. absurd (true≢false q);
        emptied = λ _. (
          i,
          p.lefts i b,
          empty-by _ i (λ a h. never
              (ap (λ (X : List ℕ). has X i a) e ∙ made-next i a ∙ rw (clear-same left i, and-true) (sym (has-dropped near none D i a) ∙ h))
              (empty-at Q i a (eq-eqb (get_or Q i 0) 0 z))),
        );
      }
