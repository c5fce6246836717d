-- Lines 3, 4, 6 and 12 of initializeAC: the counts towards a field, one of its settings after the other. Assumes nothing.
use Rattle.std.specs.Prelude.{◌≡◌, refl, Bool, true, false, ◌&&◌, List, ℕ, ◌+◌, ◌≤◌, ◌<◌, length, get_or}
use Rattle.std.proofs.Common.{sym, ap, ◌∙◌, arith}
use Rattle.std.proofs.Math.Bool.{not, and-false}
use Rattle.limits.specs.Limits.{most_fields, most_settings}
use Rattle.masks.specs.Tests.{iff_eq, and_l, and_r, and-by}
use Rattle.masks.specs.Bits.{bit, Within}
use Rattle.masks.proofs.Bits.{bit_of-zero}
use Rattle.masks.specs.Masks.{digit}
use Rattle.masks.specs.Words.{clear}
use Rattle.masks.proofs.Words.{clear_within, clear-same, clear-other}
use Rattle.masks.specs.Sets.{has}
use Rattle.counter.specs.Counts.{count_at, OnlyFirst, Raised, only-towards}
use Rattle.consistency.specs.Problem.{Problem}
use Rattle.pruning.specs.Counting.{how_many, count_below_cong, count_below-none, count_below-most, count_below-one}
use Rattle.pruning.specs.Supports.{supports}
use Rattle.initializing.specs.Initialize.{Recorded, CountedTowards}

-- Where the counts towards j were 0, they are now of the positions of own that support, but for those of `left`, still to come.
pub record CountsMade (S : List ℕ) (j own wide : ℕ) (C : List ℕ) (left : ℕ) (R : List ℕ) : Type 0 where
  pub sized : length R ≡ length C
  pub lefts : Within left own
  pub here : ((i a : ℕ) → i < wide → count_at C j i a ≡ 0) → (i a : ℕ) → i < wide
      → count_at R j i a ≡ how_many (λ b. (bit own b && not (bit left b)) && supports S j b i a)
  pub there : OnlyFirst j wide C R

module _ (S : List ℕ) (j own wide : ℕ) (C : List ℕ) where
  pub made-start : CountsMade S j own wide C own C
  made-start = record {
    sized = refl;
    lefts = λ v e. e;
    here = λ z i a l. z i a l
        ∙ sym (count_below-none most_settings _ (λ b _. ap (λ (x : Bool). x && supports S j b i a) (never_both (bit own b))));
    there = λ q o. refl;
  }
    where
      never_both : (x : Bool) → (x && not x) ≡ false
      never_both true = refl
      never_both false = refl

  module _ (left : ℕ) (R : List ℕ) (b : ℕ) (p : CountsMade S j own wide C left R) (e : bit left b ≡ true) (h : b < most_settings)
      (s : List ℕ) (set_of : (i a : ℕ) → i < wide → has s i a ≡ supports S j b i a) (Q : List ℕ) (r : Raised R j s wide Q) where
    -- with b and without it
    more : (i a : ℕ) → i < wide
        → how_many (λ u. (bit own u && not (bit (clear left b) u)) && supports S j u i a)
        ≡ how_many (λ u. (bit own u && not (bit left u)) && supports S j u i a) + digit (has s i a)
    more i a l =
        count_below-one most_settings (λ u. (bit own u && not (bit (clear left b) u)) && supports S j u i a)
        (λ u. (bit own u && not (bit left u)) && supports S j u i a) b h
        (λ u d. ap (λ (x : Bool). (bit own u && not x) && supports S j u i a) (clear-other left b u d))
        (ap (λ (x : Bool). (bit own b && not x) && supports S j b i a) e
        ∙ ap (λ (x : Bool). x && supports S j b i a) (and-false (bit own b)))
        ∙ ap (λ (x : Bool). how_many (λ u. (bit own u && not (bit left u)) && supports S j u i a) + digit x) (now i a l)
      where
        now : (i a : ℕ) → i < wide → ((bit own b && not (bit (clear left b) b)) && supports S j b i a) ≡ has s i a
        now i a l = rw (p.lefts b e, clear-same left b) (sym (set_of i a l))

    pub made-turn : CountsMade S j own wide C (clear left b) Q
    made-turn = record {
      sized = r.sized ∙ p.sized;
      lefts = λ v x. p.lefts v (clear_within left b v x);
      here = λ z i a l.
          let x = p.here z i a l in
          let y = count_below-most most_settings (λ u. (bit own u && not (bit left u)) && supports S j u i a) in
          r.more i a l (small (has s i a) x y) ∙ ap (λ (k : ℕ). k + digit (has s i a)) x ∙ sym (more i a l);
      there = λ q o. r.there q o ∙ p.there q o;
    }
      where
        small : {k c : ℕ} (t : Bool) → k ≡ c → c ≤ most_settings → k + digit t < 32
        small true x y = omega arith
        small false x y = omega arith

-- the counts of initializeAC
module _ (P : Problem) (few : P.fields ≤ most_fields) (D S S0 : List ℕ) (j : ℕ) (r : Recorded P D S0 j S) (C R : List ℕ)
    (zero : (i a : ℕ) → i < P.fields → count_at C j i a ≡ 0) (p : CountsMade S j (get_or D j 0) P.fields C 0 R) where
  pub counted-towards : CountedTowards P S C j R
  unfolding has
  counted-towards = record {
    sized = p.sized;
    here = λ i a l. p.here zero i a l ∙ count_below_cong most_settings _ _ (λ b h. iff_eq _ _
        (λ x. and_r (bit (get_or D j 0) b && not (bit 0 b)) _ x)
        (λ x. let y = and_r (P.joined j i) _ (sym (r.here b i a h l) ∙ x) in
        and-by _ _ (and-by _ _ (and_l (bit (get_or D j 0) b) _ y) (ap not (bit_of-zero b))) x));
    there = only-towards C R j P.fields few p.there;
  }
