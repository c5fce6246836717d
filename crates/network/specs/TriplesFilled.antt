-- The table of the triple rules, filled from a sheet. Assumes nothing.
use Rattle.std.specs.Prelude.{◌≡◌, refl, Bool, true, false, ◌&&◌, ◌||◌, List, ℕ, ◌+◌, ◌-◌, ◌*◌, ◌^◌, ◌≤◌, ◌<◌, eqb, ltb, length, get_or}
use Rattle.std.specs.Prelude.{set, replicate}
use Rattle.std.proofs.Common.{sym, ap, ap₂, ◌∙◌, inl, inr, ⊎_elim, arith, length-set, length-take, length-drop, pow_pos, get_or-set_same}
use Rattle.std.proofs.Common.{get_or-set_other, ext_get_or, lt-ltb, le-ltb, ltb-true, ltb-false, eq-eqb, ne_eqb}
use Rattle.std.proofs.Math.Bool.{and-false}
use Rattle.std.proofs.lemmas.List.{length-replicate}
use Rattle.limits.specs.Limits.{most_fields, most_settings, triples_front, triple_words}
use Rattle.masks.specs.Tests.{bool_cases, eq_cases, and_l}
use Rattle.masks.specs.Bits.{bit}
use Rattle.masks.proofs.Bits.{bit_of-zero, bit_high, lt_of_bits}
use Rattle.masks.specs.Masks.{mask_of, mask_of-lt}
use Rattle.masks.proofs.Words.{bit-one}
use Rattle.masks.specs.Sets.{get_d_zeros, length-pad}
use Rattle.consistency.specs.Problem.{has_field}
use Rattle.sheet.specs.Sources.{Accepted}
use Rattle.accepted.specs.Lists.{tabulate, length-tabulate}
use Rattle.accepted.specs.Parts.{fields_of, triples_of, triple_first, triple_second, triple_third}
use Rattle.accepted.specs.Outline.{settings_of, outline_of, full_at, full-past}
use Rattle.accepted.specs.Facts.{facts}
use Rattle.network.specs.TripleTable.{triple_count, triple_in, sheet_in, sheet-word, triples_with}
use Rattle.network.specs.Stored.{Stored, words_of, words_of-at}
use Rattle.network.specs.SheetProblem.{sheet_triple}
use Rattle.network.specs.Linking.{Added, among-has}
use Rattle.network.specs.Drafts.{ZerosFrom}
use Rattle.network.specs.Blocks.{BlocksTo, block-triple}
use Rattle.network.specs.Network.{TriplesOf}

-- ---- for each field the mask of the triple rules that have it: the first t are done

pub record HaveTo (xs : List ℕ) (t : ℕ) (masks : List ℕ) : Type 0 where
  pub long : length masks ≡ most_fields
  pub at : (f s : ℕ) → bit (get_or masks f 0) s ≡ (ltb s t && has_field (sheet_triple xs s) f)

module _ (xs : List ℕ) where
  pub have-start : HaveTo xs 0 (replicate most_fields 0)
  have-start = record {
    long = length-replicate {A = ℕ} most_fields 0;
    at = λ f s. ap (λ (m : ℕ). bit m s) (get_d_zeros most_fields f) ∙ bit_of-zero s
        ∙ sym (ap (λ (b : Bool). b && has_field (sheet_triple xs s) f) (le-ltb s 0 (omega arith)));
  }

  pub have-next : (t i j k x : ℕ) (masks masks' : List ℕ) → i ≡ triple_first xs t → j ≡ triple_second xs t → k ≡ triple_third xs t
      → x ≡ 2 ^ t → Added masks i j k x masks' → HaveTo xs t masks → HaveTo xs (t + 1) masks'
  have-next t i j k x masks masks' a b d e m p = record {
    long = m.sized ∙ p.long;
    at = λ f s. m.at f s
        ∙ ap₂ ◌||◌ (p.at f s) (ap₂ ◌&&◌ (among-has xs t i j k f a b d) (ap (λ (y : ℕ). bit y s) e ∙ bit-one t s)) ∙ one_more f s;
  }
    where
      or-f : (b : Bool) → (b || false) ≡ b
      or-f true = refl
      or-f false = refl

      and_t : (b : Bool) → (b && true) ≡ b
      and_t true = refl
      and_t false = refl

      one_more : (f s : ℕ) → ((ltb s t && has_field (sheet_triple xs s) f) || (has_field (sheet_triple xs t) f && eqb s t))
          ≡ (ltb s (t + 1) && has_field (sheet_triple xs s) f)
      one_more f s = ⊎_elim
          (λ (q : s ≡ t). rw (q, le-ltb t t (omega arith), eq-eqb t t refl, lt-ltb t (t + 1) (omega arith))
          (and_t (has_field (sheet_triple xs t) f)))
          (λ q. rw (ne_eqb s t q, and-false (has_field (sheet_triple xs t) f)) (or-f (ltb s t && has_field (sheet_triple xs s) f)
          ∙ ap (λ (b : Bool). b && has_field (sheet_triple xs s) f) (same s q)))
          (eq_cases s t)
        where
          same : (s : ℕ) → (s ≡ t → ⊥) → ltb s t ≡ ltb s (t + 1)
          same s q = ⊎_elim (λ l. l ∙ sym (lt-ltb s (t + 1) (let h = ltb-true s t l in omega arith)))
              (λ l. l ∙ sym (le-ltb s (t + 1) (let h = ltb-false s t l in omega arith))) (bool_cases (ltb s t))

-- ---- the front of the table, and then the triple rules

full-long : (xs : List ℕ) → Accepted xs → length (outline_of xs).full ≡ most_fields
unfolding outline_of
full-long xs a =
    length-pad (most_fields - fields_of xs) (tabulate (fields_of xs) (settings_of xs))
    ∙ (let s = length-tabulate (fields_of xs) (settings_of xs) in let n = (facts xs a).fields-few in omega arith)

full-small : (xs : List ℕ) → Accepted xs → (f : ℕ) → get_or (outline_of xs).full f 0 < 2 ^ most_settings
full-small xs a f = ⊎_elim
    (λ q. let h = ltb-true f (fields_of xs) q in
    rw (full_at xs f h) (mask-small _ ((facts xs a).count-few f h)))
    (λ q. rw (full-past xs f (ltb-false f (fields_of xs) q)) (pow_pos most_settings))
    (bool_cases (ltb f (fields_of xs)))
  where
    mask-small : (d : ℕ) → d ≤ most_settings → mask_of d (λ v. true) < 2 ^ most_settings
    mask-small d l = lt_of_bits most_settings _ (λ v k. bit_high d _ v (mask_of-lt d (λ v. true)) (omega arith))

-- there is room for the front when its parts are written
pub full-room : (T0 : List ℕ) (count n : ℕ) → triples_front + n * triple_words ≤ length T0 → triples_front ≤ length (set T0 0 count)
full-room T0 count n l = let s = length-set T0 0 count in omega arith

pub masks-room : (T0 T1 : List ℕ) (count n base : ℕ) (w : ℕ → ℕ) → triples_front + n * triple_words ≤ length T0
    → Stored (set T0 0 count) base w most_settings T1 → triples_front ≤ length T1
masks-room T0 T1 count n base w l p = let s = length-set T0 0 count in let r = p.sized in omega arith

-- The front is written, and what comes after it is as it was.
pub record FrontOf (xs : List ℕ) (count : ℕ) (T0 T : List ℕ) : Type 0 where
  pub sized : length T ≡ length T0
  pub counted : get_or T 0 0 ≡ count
  pub full : (f : ℕ) → f < most_fields → get_or T (1 + f) 0 ≡ get_or (outline_of xs).full f 0
  pub masks : (f s : ℕ) → f < most_fields → bit (get_or T (1 + most_fields + f) 0) s ≡ (ltb s count && has_field (sheet_triple xs s) f)
  pub rest : (x : ℕ) → triples_front ≤ x → get_or T x 0 ≡ get_or T0 x 0

pub front_filled : (xs T0 : List ℕ) (n count : ℕ) (full masks T1 T2 : List ℕ) → triples_front + n * triple_words ≤ length T0
    → full ≡ (outline_of xs).full → HaveTo xs count masks
    → Stored (set T0 0 count) 1 (words_of full) most_settings T1 → Stored T1 (1 + most_fields) (words_of masks) most_settings T2
    → FrontOf xs count T0 T2
front_filled xs T0 n count full masks T1 T2 room e h p q = record {
  sized = q.sized ∙ p.sized ∙ length-set T0 0 count;
  counted = q.there 0 (inl (omega arith)) ∙ p.there 0 (inl (omega arith)) ∙ get_or-set_same T0 0 count 0 (omega arith);
  full = λ f l. q.there (1 + f) (inl (omega arith)) ∙ p.here f l ∙ words_of-at full f ∙ ap (λ (w : List ℕ). get_or w f 0) e;
  masks = λ f s l. ap (λ (m : ℕ). bit m s) (q.here f l ∙ words_of-at masks f) ∙ h.at f s;
  rest = λ x l. q.there x (inr (omega arith)) ∙ p.there x (inr (omega arith)) ∙ get_or-set_other T0 0 x count 0 (λ y. omega arith);
}

module _ (xs : List ℕ) (count : ℕ) (T0 T1 : List ℕ) (front : FrontOf xs count T0 T1) where
  pub front-zeros : ZerosFrom 0 T0 → ZerosFrom triples_front T1
  front-zeros z x l = front.rest x l ∙ z x (omega arith)

  pub front-room : count ≡ triples_of xs → triples_front + triples_of xs * triple_words ≤ length T0
      → triples_front + count * triple_words ≤ length T1
  front-room c l = let s = front.sized in omega arith

  module _ (a : Accepted xs) (c : count ≡ triples_of xs) (room : triples_front + triples_of xs * triple_words ≤ length T0) (T : List ℕ)
      (b : BlocksTo xs T1 count T) where
    count-at : triple_count T ≡ count
    count-at = b.front 0 (omega arith) ∙ front.counted

    full_in : (f : ℕ) → f < most_fields → get_or T (1 + f) 0 ≡ get_or (outline_of xs).full f 0
    full_in f l = b.front (1 + f) (omega arith) ∙ front.full f l

    long : triples_front + triples_of xs * triple_words ≤ length T
    long = let y = b.sized in let z = front.sized in omega arith

    each : (t : ℕ) → t < triples_of xs → triple_in T t ≡ sheet_triple xs t
    each t l = block-triple xs a t l T (b.each t (omega arith))

    settings : sheet_in T ≡ (outline_of xs).full
    settings =
        let s : length (sheet_in T) ≡ most_fields = sheet-long in
        ext_get_or 0 (sheet_in T) (outline_of xs).full (s ∙ sym (full-long xs a))
        (λ f l. let k : f < most_fields = omega arith in sheet-word T f k ∙ full_in f k)
      where
        sheet-long : length (sheet_in T) ≡ most_fields
        sheet-long = unfold sheet_in in simp (length-take, length-drop) (let k = long in omega arith)

    have-at : (f t : ℕ) → f < fields_of xs → bit (triples_with T f) t ≡ (ltb t (triples_of xs) && has_field (sheet_triple xs t) f)
    have-at f t l =
        let k : f < most_fields = (let n = (facts xs a).fields-few in omega arith) in
        ap (λ (m : ℕ). bit m t) (b.front (1 + most_fields + f) (omega arith)) ∙ front.masks f t k
        ∙ ap (λ (n : ℕ). ltb t n && has_field (sheet_triple xs t) f) c

    low : {t : ℕ} → t < triple_count T → t < triples_of xs
    low l = rw (count-at, c) at l

    pub triples-of : TriplesOf xs T
    triples-of = record {
      table = record {
        few = rw (count-at, c) (facts xs a).triples-few;
        long = rw (count-at, c) long;
        rise = λ t l. rw (each t (low l)) (rises t (low l));
        have = λ f t k l. have-at f t k ∙ rw (each t (low l), lt-ltb t (triples_of xs) (low l));
        have-low = λ f t k y. rw (count-at, c) (ltb-true t (triples_of xs) (and_l _ _ (sym (have-at f t k) ∙ y)));
        small = λ f l. rw (full_in f l) (full-small xs a f);
      };
      count = count-at ∙ c;
      each = each;
      settings = settings;
    }
      where
        rises : (t : ℕ) → t < triples_of xs → ((sheet_triple xs t).first < (sheet_triple xs t).second)
            × ((sheet_triple xs t).second < (sheet_triple xs t).third) × ((sheet_triple xs t).third < fields_of xs)
        rises t l = let fs = facts xs a in unfold sheet_triple in (fs.triple-apart t l, fs.triple-above t l, fs.triple-within t l)
