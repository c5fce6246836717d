-- The support sets and the counts of Figure 2 of source document 004: what initializeAC makes and pruneAC keeps. Assumes nothing.
use Rattle.std.specs.Prelude.{◌≡◌, Bool, true, ◌&&◌, List, ℕ, ◌+◌, ◌*◌, ◌<◌, length, get_or}
use Rattle.std.proofs.Common.{◌∙◌}
use Rattle.limits.specs.Limits.{most_fields, most_settings, counter_words, support_words}
use Rattle.masks.specs.Tests.{iff_eq, and_l, and_r, and-by}
use Rattle.masks.specs.Bits.{bit}
use Rattle.masks.proofs.Bits.{bit_bound}
use Rattle.masks.specs.Sets.{has, ◌⊆◌}
use Rattle.counter.specs.Counts.{count_at}
use Rattle.removal_list.specs.Count.{Small}
use Rattle.removal_list.specs.Moved.{number_of}
use Rattle.consistency.specs.Problem.{Problem, In}
use Rattle.consistency.specs.Closing.{Closed}
use Rattle.consistency.specs.Revising.{NoTriples}
use Rattle.pruning.specs.Counting.{how_many, count_below_cong, count_below-by, count_below-at}

-- (i, a) is in the support set of (j, b)
unfoldable pub supports : List ℕ → ℕ → ℕ → ℕ → ℕ → Bool
supports S j b i a = bit (get_or S (number_of j b * most_fields + i) 0) a

-- Every count is of the settings of Q that support: Q is the set, and until the list is empty what waits on it too.
pub record Counts (n : ℕ) (S C Q : List ℕ) : Type 0 where
  pub sized : length C ≡ counter_words
  pub each : (j i a : ℕ) → j < n → i < n → count_at C j i a ≡ how_many (λ b. has Q j b && supports S j b i a)

module _ (P : Problem) where
  -- A setting supports only its allowed partners, and of the settings of D all of them.
  pub record Supports (S D : List ℕ) : Type 0 where
    pub sized : length S ≡ support_words
    pub sound : (j b i a : ℕ) → j < P.fields → b < most_settings → i < P.fields → supports S j b i a ≡ true → P.allowed i j a b ≡ true
    pub complete : (j b i a : ℕ) → j < P.fields → i < P.fields → has D j b ≡ true → has D i a ≡ true → P.joined i j ≡ true
        → P.allowed i j a b ≡ true → supports S j b i a ≡ true

  pub supports-less : (S D R : List ℕ) → R ⊆ D → Supports S D → Supports S R
  supports-less S D R h s = record {
    sized = s.sized;
    sound = s.sound;
    complete = λ j b i a l k x y. s.complete j b i a l k (h j b x) (h i a y);
  }

  -- each setting of D in a field of W has a count towards each field of W that a rule joins to its own
  abbrev pub Positive : ℕ → List ℕ → List ℕ → Type 0
  Positive W C D = (i j a : ℕ) → In P W i → In P W j → P.joined i j ≡ true → has D i a ≡ true → 0 < count_at C j i a

  -- how many allowed partners a setting has in field j, under the rule that joins the two
  unfoldable pub partners : List ℕ → ℕ → ℕ → ℕ → ℕ
  partners D i a j = how_many (λ b. has D j b && P.allowed i j a b)

  module _ (S C D : List ℕ) (s : Supports S D) where
    -- Once the list is empty, the count of a setting that is there is the number of its allowed partners that are there.
    pub counts-exact : Counts P.fields S C D → (i j a : ℕ) → i < P.fields → j < P.fields → P.joined i j ≡ true → has D i a ≡ true
        → count_at C j i a ≡ partners D i a j
    unfolding partners
    counts-exact c i j a l k r e =
        c.each j i a k l ∙ count_below_cong most_settings _ _ (λ b h. iff_eq _ _
        (λ x. and-by _ _ (and_l (has D j b) _ x) (s.sound j b i a k h l (and_r (has D j b) _ x)))
        (λ x. let y = and_l (has D j b) _ x in and-by _ _ y (s.complete j b i a k l y e r (and_r (has D j b) _ x))))

    -- a count that is not 0 shows a partner
    pub positive_closed : NoTriples P → (W : ℕ) → Counts P.fields S C D → Positive W C D → Closed P W D
    positive_closed alone W c p i a e w = record {
      rules = λ j x r.
          let l = p i j a w x r e in
          let k = count_below-at most_settings (λ b. has D j b && supports S j b i a) (rw (c.each j i a x.0 w.0) at l) in
          (k.0, and_l _ _ k.2, s.sound j k.0 i a x.0 k.1 w.0 (and_r (has D j k.0) _ k.2));
      triples = λ t l. absurd (alone t l);
    }

    -- in a larger set a partner shows that a count is not 0
    pub partner-counted : (Q : List ℕ) → Counts P.fields S C Q → D ⊆ Q → Small D → (i j a b : ℕ) → i < P.fields → j < P.fields
        → P.joined i j ≡ true → has D i a ≡ true → has D j b ≡ true → P.allowed i j a b ≡ true → 0 < count_at C j i a
    unfolding has
    partner-counted Q c h small i j a b l k r e x y =
        rw (c.each j i a k l)
        (count_below-by most_settings _ b (bit_bound most_settings (get_or D j 0) b (small j) x)
        (and-by _ _ (h j b x) (s.complete j b i a k l x e r y)))

    pub closed_positive : (W : ℕ) → Counts P.fields S C D → Small D → Closed P W D → Positive W C D
    closed_positive W c small shut i j a w x r e =
        let p = (shut i a e w).rules j x r in
        partner-counted D c (λ f v z. z) small i j a p.0 w.0 x.0 r e p.1 p.2
