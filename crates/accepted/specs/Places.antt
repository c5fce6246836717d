-- What stands at the places of a right sheet's parts. Assumes nothing.
use Rattle.std.specs.Prelude.{◌≡◌}
use Rattle.std.proofs.Math.Path.{refl, ap}
use Rattle.std.proofs.Common.{sym, ◌∙◌, ⊎_elim, add-zero, drop-cons, drop-drop, get_or-drop, eq-eqb, ne_eqb}
use mathlib.Core.List.{List, [], ◌∷◌, ◌++◌, append_assoc}
use Prim.Native.Nat.{ℕ, zero, suc, ◌+◌, ◌<◌, ◌≤◌}
use native.Mathlib.Omega.{arith}
use Rattle.std.proofs.Math.ListN.{length, get_or, drop, length-append, length-drop, get_or-append}
use Rattle.std.proofs.Math.Seq.{drop-append_seam, drop-length}
use Rattle.masks.specs.Pick.{pick_true, pick-false}
use Rattle.accepted.specs.Sheets.{Rule, Triple, Sheet, fields_numbers, rules_numbers, triples_numbers, triples_part, sheet_numbers}
use Rattle.accepted.specs.Sheets.{RuleRight, Ruled, ruled-none, ruled-one, TripleRight, Tripled, tripled-none}
use Rattle.accepted.specs.Sheets.{tripled-one, counted, IsSheet}
use Rattle.accepted.specs.Parts.{field_start, fields_of, count_of, setting_of, reach_of, rules_of, values_at, rule_start, first_of}
use Rattle.accepted.specs.Parts.{second_of}
use Rattle.accepted.specs.Parts.{kind_of, value_of, triples_at, triples_of, triple_start, triple_first, triple_second}
use Rattle.accepted.specs.Parts.{triple_third, triple_number}

get_d_at : (xs : List ℕ) (p i x : ℕ) (ys : List ℕ) → drop p xs ≡ ys → get_or ys i 0 ≡ x → get_or xs (p + i) 0 ≡ x
get_d_at xs p i x ys e q = sym (get_or-drop p xs i 0) ∙ ap (λ (l : List ℕ). get_or l i 0) e ∙ q

get_d_first : (xs : List ℕ) (p x : ℕ) (ys : List ℕ) → drop p xs ≡ x ∷ ys → get_or xs p 0 ≡ x
get_d_first xs p x ys e = ap (λ (k : ℕ). get_or xs k 0) (sym (add-zero p)) ∙ get_d_at xs p 0 x (x ∷ ys) e refl

-- past a part that stands at p
drop_past : (xs : List ℕ) (p : ℕ) (part ys : List ℕ) → drop p xs ≡ part ++ ys → drop (p + length part) xs ≡ ys
drop_past xs p part ys e = sym (drop-drop (length part) p xs) ∙ ap (drop (length part)) e ∙ drop-append_seam part ys

-- a rule that is not there
abbrev pub no_rule : Rule
no_rule = record { i = 0; j = 0; kind = 0; values = [] }

abbrev rule_part : Rule → List ℕ
rule_part r = r.i ∷ r.j ∷ r.kind ∷ r.values

abbrev pub rule_of : Sheet → ℕ → Rule
rule_of s r = get_or s.rules r no_rule

ruled-at : (n floor : ℕ) (d : ℕ → ℕ) (rs : List Rule) → Ruled n d floor rs → (k : ℕ) → k < length rs → RuleRight n d (get_or rs k no_rule)
ruled-at n floor d rs ruled = go floor rs ruled
  where
    go : (low : ℕ) (rs : List Rule) → Ruled n d low rs → (k : ℕ) → k < length rs → RuleRight n d (get_or rs k no_rule)
    go low rs ruled-none k h = absurd (omega arith)
    go low rs (ruled-one {rs = ts} l g t) zero h = g
    go low rs (ruled-one {rs = ts} l g t) (suc k) h = go _ ts t k (omega arith)

-- a triple that is not there
abbrev pub no_triple : Triple
no_triple = record { i = 0; j = 0; k = 0; c = 0 }

abbrev triple_part : Triple → List ℕ
triple_part t = t.i ∷ t.j ∷ t.k ∷ t.c ∷ []

abbrev pub triple_of : Sheet → ℕ → Triple
triple_of s k = get_or s.triples k no_triple

tripled-at : (n floor : ℕ) (ts : List Triple) → Tripled n floor ts → (k : ℕ) → k < length ts → TripleRight n (get_or ts k no_triple)
tripled-at n floor ts tripled-none k h = absurd (omega arith)
tripled-at n floor ts (tripled-one {ts = us} l g t) zero h = g
tripled-at n floor ts (tripled-one {ts = us} l g t) (suc k) h = tripled-at n _ us t k (omega arith)

-- the count of triples, where there are some, and what follows it
part_count : (ts : List Triple) → get_or (triples_part ts) 0 0 ≡ length ts
unfolding triples_part
part_count [] = refl
part_count (t ∷ ts) = refl

part-some : (ts : List Triple) → 0 < length ts → triples_part ts ≡ (length ts ∷ []) ++ triples_numbers ts
unfolding triples_part
part-some [] h = absurd (omega arith)
part-some (t ∷ ts) h = refl

module _ (xs : List ℕ) (t : IsSheet xs) where
  abbrev fs : List (List ℕ)
  fs = t.sheet.fields

  tail : List ℕ
  tail = t.sheet.reach ∷ length t.sheet.rules ∷ (rules_numbers t.sheet.rules ++ triples_part t.sheet.triples)

  pub fields-count : fields_of xs ≡ length fs
  unfolding sheet_numbers
  fields-count = ap (λ (l : List ℕ). get_or l 0 0) t.split

  -- a field in front of those after it
  field-from : (f : ℕ) → f < length fs → drop (field_start xs f) xs ≡ fields_numbers (drop f fs) ++ tail
      → drop (field_start xs f) xs ≡ (length (get_or fs f []) ∷ get_or fs f []) ++ (fields_numbers (drop (suc f) fs) ++ tail)
  unfolding fields_numbers
  field-from f h e =
      e ∙ ap (λ (l : List (List ℕ)). fields_numbers l ++ tail) (drop-cons fs f [] h)
      ∙ ap (λ (l : List ℕ). length (get_or fs f []) ∷ l) (append_assoc (get_or fs f []) (fields_numbers (drop (suc f) fs)) tail)

  -- from the count of field f on
  fields-from : (f : ℕ) → f ≤ length fs → drop (field_start xs f) xs ≡ fields_numbers (drop f fs) ++ tail
  unfolding sheet_numbers field_start tail
  fields-from zero h = ap (drop 1) t.split
  fields-from (suc f) h =
      let e = field-from f h (fields-from f (omega arith)) in
      let d = get_d_first xs (field_start xs f) _ _ e in
      let q : field_start xs f + 1 + get_or xs (field_start xs f) 0 ≡ field_start xs f + suc (length (get_or fs f [])) = omega arith in
      ap (λ (k : ℕ). drop k xs) q
      ∙ drop_past xs (field_start xs f) (length (get_or fs f []) ∷ get_or fs f []) _ e

  -- the facts of field f
  field_at : (f : ℕ) → f < length fs
      → drop (field_start xs f) xs ≡ (length (get_or fs f []) ∷ get_or fs f []) ++ (fields_numbers (drop (suc f) fs) ++ tail)
  field_at f h = field-from f h (fields-from f (omega arith))

  pub count-is : (f : ℕ) → f < length fs → count_of xs f ≡ length (get_or fs f [])
  count-is f h = get_d_first xs (field_start xs f) _ _ (field_at f h)

  pub setting-is : (f v : ℕ) → f < length fs → v < length (get_or fs f []) → setting_of xs f v ≡ get_or (get_or fs f []) v 0
  setting-is f v h k =
      let p : field_start xs f + 1 + v ≡ field_start xs f + suc v = omega arith in
      ap (λ (i : ℕ). get_or xs i 0) p
      ∙ get_d_at xs (field_start xs f) (suc v) _ _ (field_at f h)
      (get_or-append (get_or fs f []) (fields_numbers (drop (suc f) fs) ++ tail) 0 v k)

  -- a field stands before the end
  pub field-ends : (f : ℕ) → f < length fs → field_start xs f + 1 + length (get_or fs f []) < length xs
  unfolding tail
  field-ends f h =
      let e =
      ap length
      (drop_past xs (field_start xs f) (length (get_or fs f []) ∷ get_or fs f []) (fields_numbers (drop (suc f) fs) ++ tail)
      (field_at f h)) in
      omega (
        arith,
        e,
        length-drop (field_start xs f + suc (length (get_or fs f []))) xs,
        length-append (fields_numbers (drop (suc f) fs)) tail,
      )

  end_from : drop (field_start xs (fields_of xs)) xs ≡ tail
  unfolding fields_numbers
  end_from =
      ap (λ (n : ℕ). drop (field_start xs n) xs) fields-count
      ∙ fields-from (length fs) (omega arith) ∙ ap (λ (l : List (List ℕ)). fields_numbers l ++ tail) (drop-length fs)

  pub reach-is : reach_of xs ≡ t.sheet.reach
  unfolding tail
  reach-is = get_d_first xs (field_start xs (fields_of xs)) _ _ end_from

  pub rules-is : rules_of xs ≡ length t.sheet.rules
  unfolding tail
  rules-is = get_d_at xs (field_start xs (fields_of xs)) 1 _ _ end_from refl

  -- reach and number of rules stand before the end
  pub tail-ends : field_start xs (fields_of xs) + 2 ≤ length xs
  unfolding tail
  tail-ends = omega (arith, ap length end_from, length-drop (field_start xs (fields_of xs)) xs)

  -- ---- the rules

  abbrev rs : List Rule
  rs = t.sheet.rules

  pub rule-right : (r : ℕ) → r < length rs → RuleRight (length fs) (counted t.sheet) (get_or rs r no_rule)
  rule-right r h = ruled-at (length fs) 0 (counted t.sheet) rs t.right.ruled r h

  -- what stands after the rules
  abbrev last : List ℕ
  last = triples_part t.sheet.triples

  -- a rule in front of those after it
  rule-from : (p r : ℕ) → r < length rs → drop p xs ≡ rules_numbers (drop r rs) ++ last
      → drop p xs ≡ rule_part (get_or rs r no_rule) ++ (rules_numbers (drop (suc r) rs) ++ last)
  unfolding rules_numbers
  rule-from p r h e =
      e ∙ ap (λ (l : List Rule). rules_numbers l ++ last) (drop-cons rs r no_rule h)
      ∙ append_assoc (rule_part (get_or rs r no_rule)) (rules_numbers (drop (suc r) rs)) last

  -- as many numbers as its kind has
  values-size : (p r : ℕ) → r < length rs → drop p xs ≡ rules_numbers (drop r rs) ++ last
      → values_at xs p ≡ length (get_or rs r no_rule).values
  values-size p r h e =
      let g = rule-right r h in
      let q = rule-from p r h e in
      let i : get_or xs p 0 ≡ (get_or rs r no_rule).i = get_d_first xs p _ _ q in
      let k : get_or xs (p + 2) 0 ≡ (get_or rs r no_rule).kind = get_d_at xs p 2 _ _ q refl in
      ⊎_elim
      (λ v. pick_true _ _ _ (eq-eqb _ 0 (k ∙ v.0)) ∙ ap (count_of xs) i
      ∙ count-is (get_or rs r no_rule).i (let a = g.apart in let b = g.within in omega arith) ∙ sym v.1)
      (λ v. pick-false _ _ _ (ne_eqb _ 0 (λ z. v.0 (sym k ∙ z))) ∙ sym v.1)
      g.numbers

  rules-from : (r : ℕ) → r ≤ length rs → drop (rule_start xs r) xs ≡ rules_numbers (drop r rs) ++ last
  unfolding rule_start tail
  rules-from zero h = drop_past xs (field_start xs (fields_of xs)) (t.sheet.reach ∷ length rs ∷ []) (rules_numbers rs ++ last) end_from
  rules-from (suc r) h =
      let ih = rules-from r (omega arith) in
      let d = values-size (rule_start xs r) r h ih in
      let q : rule_start xs r + 3 + values_at xs (rule_start xs r)
      ≡ rule_start xs r + suc (suc (suc (length (get_or rs r no_rule).values))) = omega arith in
      ap (λ (k : ℕ). drop k xs) q ∙ drop_past xs (rule_start xs r) (rule_part (get_or rs r no_rule)) _ (rule-from (rule_start xs r) r h ih)

  rule-at : (r : ℕ) → r < length rs
      → drop (rule_start xs r) xs ≡ rule_part (get_or rs r no_rule) ++ (rules_numbers (drop (suc r) rs) ++ last)
  rule-at r h = rule-from (rule_start xs r) r h (rules-from r (omega arith))

  pub first-is : (r : ℕ) → r < length rs → first_of xs r ≡ (rule_of t.sheet r).i
  first-is r h = get_d_first xs (rule_start xs r) _ _ (rule-at r h)

  pub second_is : (r : ℕ) → r < length rs → second_of xs r ≡ (rule_of t.sheet r).j
  second_is r h = get_d_at xs (rule_start xs r) 1 _ _ (rule-at r h) refl

  pub kind-is : (r : ℕ) → r < length rs → kind_of xs r ≡ (rule_of t.sheet r).kind
  kind-is r h = get_d_at xs (rule_start xs r) 2 _ _ (rule-at r h) refl

  pub value-is : (r a : ℕ) → r < length rs → a < length (rule_of t.sheet r).values
      → value_of xs r a ≡ get_or (rule_of t.sheet r).values a 0
  value-is r a h k =
      let p : rule_start xs r + 3 + a ≡ rule_start xs r + suc (suc (suc a)) = omega arith in
      ap (λ (i : ℕ). get_or xs i 0) p
      ∙ get_d_at xs (rule_start xs r) (suc (suc (suc a))) _ _ (rule-at r h)
      (get_or-append (get_or rs r no_rule).values (rules_numbers (drop (suc r) rs) ++ last) 0 a k)

  -- a rule stands before the end
  pub rule-ends : (r : ℕ) → r < length rs → rule_start xs r + 3 + length (rule_of t.sheet r).values ≤ length xs
  rule-ends r h =
      let v = (get_or rs r no_rule).values in
      let e = ap length (rule-at r h) in
      omega (arith, e, length-drop (rule_start xs r) xs, length-append v (rules_numbers (drop (suc r) rs) ++ last))

  pub rule-values : (r : ℕ) → r < length rs → values_at xs (rule_start xs r) ≡ length (rule_of t.sheet r).values
  rule-values r h = values-size (rule_start xs r) r h (rules-from r (omega arith))

  -- ---- the triples

  abbrev ts : List Triple
  ts = t.sheet.triples

  pub triple-right : (k : ℕ) → k < length ts → TripleRight (length fs) (triple_of t.sheet k)
  triple-right k h = tripled-at (length fs) 0 ts t.right.tripled k h

  part-from : drop (triples_at xs) xs ≡ triples_part ts
  unfolding rules_numbers
  part-from =
      ap (λ (n : ℕ). drop (rule_start xs n) xs) rules-is
      ∙ rules-from (length rs) (omega arith) ∙ ap (λ (l : List Rule). rules_numbers l ++ last) (drop-length rs)

  pub triples-is : triples_of xs ≡ length ts
  triples-is =
      ap (λ (k : ℕ). get_or xs k 0) (sym (add-zero (triples_at xs)))
      ∙ get_d_at xs (triples_at xs) 0 _ (triples_part ts) part-from (part_count ts)

  -- a triple in front of those after it
  triple-from : (p k : ℕ) → k < length ts → drop p xs ≡ triples_numbers (drop k ts)
      → drop p xs ≡ triple_part (get_or ts k no_triple) ++ triples_numbers (drop (suc k) ts)
  unfolding triples_numbers
  triple-from p k h e = e ∙ ap triples_numbers (drop-cons ts k no_triple h)

  triples-from : (k : ℕ) → k ≤ length ts → 0 < length ts → drop (triple_start xs k) xs ≡ triples_numbers (drop k ts)
  triples-from zero h p =
      let q : triple_start xs 0 ≡ triples_at xs + 1 = omega arith in
      ap (λ (i : ℕ). drop i xs) q ∙ drop_past xs (triples_at xs) (length ts ∷ []) (triples_numbers ts) (part-from ∙ part-some ts p)
  triples-from (suc k) h p =
      let q : triple_start xs (suc k) ≡ triple_start xs k + 4 = omega arith in
      ap (λ (i : ℕ). drop i xs) q
      ∙ drop_past xs (triple_start xs k) (triple_part (get_or ts k no_triple)) _
      (triple-from (triple_start xs k) k h (triples-from k (omega arith) p))

  triple-at : (k : ℕ) → k < length ts
      → drop (triple_start xs k) xs ≡ triple_part (get_or ts k no_triple) ++ triples_numbers (drop (suc k) ts)
  triple-at k h = triple-from (triple_start xs k) k h (triples-from k (omega arith) (omega arith))

  pub triple-first-is : (k : ℕ) → k < length ts → triple_first xs k ≡ (triple_of t.sheet k).i
  triple-first-is k h = get_d_first xs (triple_start xs k) _ _ (triple-at k h)

  pub triple-second-is : (k : ℕ) → k < length ts → triple_second xs k ≡ (triple_of t.sheet k).j
  triple-second-is k h = get_d_at xs (triple_start xs k) 1 _ _ (triple-at k h) refl

  pub triple-third-is : (k : ℕ) → k < length ts → triple_third xs k ≡ (triple_of t.sheet k).k
  triple-third-is k h = get_d_at xs (triple_start xs k) 2 _ _ (triple-at k h) refl

  pub triple-number-is : (k : ℕ) → k < length ts → triple_number xs k ≡ (triple_of t.sheet k).c
  triple-number-is k h = get_d_at xs (triple_start xs k) 3 _ _ (triple-at k h) refl

  -- a triple stands before the end
  pub triple-ends : (k : ℕ) → k < length ts → triple_start xs k + 3 < length xs
  triple-ends k h = omega (arith, ap length (triple-at k h), length-drop (triple_start xs k) xs)
