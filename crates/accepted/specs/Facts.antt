-- What holds of the numbers of an accepted sheet, by the places of its parts. Assumes nothing.
use Rattle.std.specs.Prelude.{◌≡◌, List, [], ℕ, zero, suc, ◌+◌, ◌^◌, ◌<◌, ◌≤◌, length, get_or}
use Rattle.std.proofs.Common.{sym, ap, ◌∙◌, ⊎_elim, arith}
use Rattle.limits.specs.Limits.{most_fields, most_settings, largest_setting, whole_reach, most_rules, most_triples, last_kind}
use Rattle.grammar.specs.Grammar.{key, triple_key}
use Rattle.sheet.specs.Sources.{Accepted}
use Rattle.accepted.specs.Sheets.{Rule, Sheet, Rises, rises-none, rises-one, Below, below_none, below_one, RuleRight, Ruled}
use Rattle.accepted.specs.Sheets.{ruled-none, ruled-one, counted, Triple, key_of_triple, Tripled, tripled-none}
use Rattle.accepted.specs.Sheets.{tripled-one, IsSheet}
use Rattle.accepted.specs.AcceptedSheet.{sheet-in}
use Rattle.accepted.specs.Parts.{RuleAt, rule-next, field_start, fields_of, count_of, setting_of, reach_of, rules_of, rule_start, first_of}
use Rattle.accepted.specs.Parts.{second_of, kind_of, value_of, values_at, TripleAt, triples_at, triples_of, triple_start, triple_first}
use Rattle.accepted.specs.Parts.{triple_second, triple_third, triple_number}
use Rattle.accepted.specs.Places.{no_rule, rule_of, fields-count, count-is, setting-is, field-ends, reach-is, rules-is, rule-right}
use Rattle.accepted.specs.Places.{first-is, second_is, kind-is, value-is, tail-ends, rule-ends, rule-values, no_triple, triple-right}
use Rattle.accepted.specs.Places.{triples-is, triple-first-is, triple-second-is, triple-third-is, triple-number-is, triple-ends}

-- Fields, counts and settings; reach; rules, their fields, kinds and numbers; triples, their fields and numbers. Those named `..-end`,
-- `rule-after` and the second part of `mask_lt` say that a place lies within the list.
pub record Facts (xs : List ℕ) : Type 0 where
  pub fields-some : 1 ≤ fields_of xs
  pub fields-few : fields_of xs ≤ most_fields
  pub count-some : (f : ℕ) → f < fields_of xs → 1 ≤ count_of xs f
  pub count-few : (f : ℕ) → f < fields_of xs → count_of xs f ≤ most_settings
  pub field_end : (f : ℕ) → f < fields_of xs → field_start xs f + 1 + count_of xs f < length xs
  pub setting-le : (f v : ℕ) → f < fields_of xs → v < count_of xs f → setting_of xs f v ≤ largest_setting
  pub setting-rise : (f v : ℕ) → f < fields_of xs → suc v < count_of xs f → setting_of xs f v < setting_of xs f (suc v)
  pub tail_end : field_start xs (fields_of xs) + 2 ≤ length xs
  pub reach-some : 1 ≤ reach_of xs
  pub reach_few : reach_of xs ≤ whole_reach
  pub rules-few : rules_of xs ≤ most_rules
  pub rule_end : (r : ℕ) → r < rules_of xs → rule_start xs r + 3 < length xs
  pub rule-after : (r : ℕ) → r < rules_of xs → rule_start xs r + 3 + values_at xs (rule_start xs r) ≤ length xs
  pub apart : (r : ℕ) → r < rules_of xs → first_of xs r < second_of xs r
  pub within : (r : ℕ) → r < rules_of xs → second_of xs r < fields_of xs
  pub kind-le : (r : ℕ) → r < rules_of xs → kind_of xs r ≤ last_kind
  pub mask_lt : (r a : ℕ) → r < rules_of xs → kind_of xs r ≡ 0 → a < count_of xs (first_of xs r)
      → (value_of xs r a < 2 ^ count_of xs (second_of xs r)) × (rule_start xs r + 3 + a < length xs)
  pub amount_le : (r : ℕ) → r < rules_of xs → (kind_of xs r ≡ 0 → ⊥) → value_of xs r 0 ≤ largest_setting
  pub rule-rise : (r : ℕ) → suc r < rules_of xs → key (first_of xs r) (second_of xs r) < key (first_of xs (suc r)) (second_of xs (suc r))
  pub triples-few : triples_of xs ≤ most_triples
  pub triple_end : (t : ℕ) → t < triples_of xs → triple_start xs t + 3 < length xs
  pub triple-apart : (t : ℕ) → t < triples_of xs → triple_first xs t < triple_second xs t
  pub triple-above : (t : ℕ) → t < triples_of xs → triple_second xs t < triple_third xs t
  pub triple-within : (t : ℕ) → t < triples_of xs → triple_third xs t < fields_of xs
  pub triple_amount-le : (t : ℕ) → t < triples_of xs → triple_number xs t ≤ largest_setting
  pub triple-rise : (t : ℕ) → suc t < triples_of xs
      → triple_key (triple_first xs t) (triple_second xs t) (triple_third xs t)
      < triple_key (triple_first xs (suc t)) (triple_second xs (suc t)) (triple_third xs (suc t))

rises-at : (floor : ℕ) (xs : List ℕ) → Rises floor xs → (v : ℕ) → v < length xs
    → (floor ≤ get_or xs v 0) × (get_or xs v 0 ≤ largest_setting)
rises-at floor xs rises-none v h = absurd (omega arith)
rises-at floor xs (rises-one {xs = ys} p q t) zero h = (p, q)
rises-at floor xs (rises-one {x = x} {xs = ys} p q t) (suc v) h = let r = rises-at (x + 1) ys t v (omega arith) in (omega arith, r.1)

rises_next : (floor : ℕ) (xs : List ℕ) → Rises floor xs → (v : ℕ) → suc v < length xs → get_or xs v 0 < get_or xs (suc v) 0
rises_next floor xs rises-none v h = absurd (omega arith)
rises_next floor xs (rises-one {x = x} {xs = ys} p q t) zero h = let r = rises-at (x + 1) ys t 0 (omega arith) in omega arith
rises_next floor xs (rises-one {x = x} {xs = ys} p q t) (suc v) h = rises_next (x + 1) ys t v (omega arith)

below_at : (b : ℕ) (xs : List ℕ) → Below b xs → (k : ℕ) → k < length xs → get_or xs k 0 < b
below_at b xs below_none k h = absurd (omega arith)
below_at b xs (below_one {xs = ys} p t) zero h = p
below_at b xs (below_one {xs = ys} p t) (suc k) h = below_at b ys t k (omega arith)

abbrev key_of : Rule → ℕ
key_of r = key r.i r.j

ruled_floor : (n floor : ℕ) (d : ℕ → ℕ) (rs : List Rule) → Ruled n d floor rs → 0 < length rs → floor ≤ key_of (get_or rs 0 no_rule)
ruled_floor n floor d rs ruled-none h = absurd (omega arith)
ruled_floor n floor d rs (ruled-one l g t) h = l

ruled-next : (n floor : ℕ) (d : ℕ → ℕ) (rs : List Rule) → Ruled n d floor rs → (r : ℕ) → suc r < length rs
    → key_of (get_or rs r no_rule) < key_of (get_or rs (suc r) no_rule)
ruled-next n floor d rs ruled = go floor rs ruled
  where
    go : (low : ℕ) (rs : List Rule) → Ruled n d low rs → (r : ℕ) → suc r < length rs
        → key_of (get_or rs r no_rule) < key_of (get_or rs (suc r) no_rule)
    go low rs ruled-none r h = absurd (omega arith)
    go low rs (ruled-one {rs = ts} l g t) zero h = let q = ruled_floor n _ d ts t (omega arith) in omega arith
    go low rs (ruled-one {rs = ts} l g t) (suc r) h = go _ ts t r (omega arith)

tripled_floor : (n floor : ℕ) (ts : List Triple) → Tripled n floor ts → 0 < length ts → floor ≤ key_of_triple (get_or ts 0 no_triple)
tripled_floor n floor ts tripled-none h = absurd (omega arith)
tripled_floor n floor ts (tripled-one l g r) h = l

tripled-next : (n floor : ℕ) (ts : List Triple) → Tripled n floor ts → (k : ℕ) → suc k < length ts
    → key_of_triple (get_or ts k no_triple) < key_of_triple (get_or ts (suc k) no_triple)
tripled-next n floor ts tripled-none k h = absurd (omega arith)
tripled-next n floor ts (tripled-one {ts = us} l g r) zero h = let q = tripled_floor n _ us r (omega arith) in omega arith
tripled-next n floor ts (tripled-one {ts = us} l g r) (suc k) h = tripled-next n _ us r k (omega arith)

values-some : (s : Sheet) (r : Rule) → ((f : ℕ) → f < length s.fields → 1 ≤ counted s f) → RuleRight (length s.fields) (counted s) r
    → 1 ≤ length r.values
values-some s r h g =
    let a = g.apart in
    let b = g.within in
    ⊎_elim (λ v. let q = h r.i (omega arith) in omega (arith, v.1)) (λ v. omega (arith, v.1)) g.numbers

mask-of : (s : Sheet) (r : Rule) (a : ℕ) → RuleRight (length s.fields) (counted s) r → r.kind ≡ 0 → a < counted s r.i
    → (a < length r.values) × (get_or r.values a 0 < 2 ^ counted s r.j)
mask-of s r a g z h =
    ⊎_elim (λ v. let k : a < length r.values = omega (arith, v.1) in (k, below_at _ r.values v.2 a k))
    (λ v. absurd (v.0 z)) g.numbers

amount_of : (s : Sheet) (r : Rule) → RuleRight (length s.fields) (counted s) r → (r.kind ≡ 0 → ⊥)
    → (0 < length r.values) × (get_or r.values 0 0 < largest_setting + 1)
amount_of s r g z =
    ⊎_elim (λ v. absurd (z v.0))
    (λ v. let k : 0 < length r.values = omega (arith, v.1) in (k, below_at (largest_setting + 1) r.values v.2 0 k)) g.numbers

module _ (xs : List ℕ) (t : IsSheet xs) where
  in_fields : {f : ℕ} → f < fields_of xs → f < length t.sheet.fields
  in_fields h = rw (fields-count xs t) at h

  in_rules : {r : ℕ} → r < rules_of xs → r < length t.sheet.rules
  in_rules h = rw (rules-is xs t) at h

  in_triples : {k : ℕ} → k < triples_of xs → k < length t.sheet.triples
  in_triples h = rw (triples-is xs t) at h

  first_in : {r : ℕ} → r < length t.sheet.rules → (rule_of t.sheet r).i < length t.sheet.fields
  first_in {r} h = let g = rule-right xs t r h in let a = g.apart in let b = g.within in omega arith

  sheet-facts : Facts xs
  sheet-facts = record {
    fields-some = rw (fields-count xs t) t.right.some;
    fields-few = rw (fields-count xs t) t.right.few;
    count-some = λ f h. rw (count-is xs t f (in_fields h)) (t.right.field f (in_fields h)).some;
    count-few = λ f h. rw (count-is xs t f (in_fields h)) (t.right.field f (in_fields h)).few;
    field_end = λ f h. rw (count-is xs t f (in_fields h)) (field-ends xs t f (in_fields h));
    setting-le = λ f v h k.
        let l = rw (count-is xs t f (in_fields h)) at k in
        rw (setting-is xs t f v (in_fields h) l) (rises-at 0 _ (t.right.field f (in_fields h)).rise v l).1;
    setting-rise = λ f v h k.
        let l : suc v < length (get_or t.sheet.fields f []) = rw (count-is xs t f (in_fields h)) at k in
        rw (setting-is xs t f v (in_fields h) (omega arith), setting-is xs t f (suc v) (in_fields h) l)
        (rises_next 0 _ (t.right.field f (in_fields h)).rise v l);
    tail_end = tail-ends xs t;
    reach-some = rw (reach-is xs t) t.right.reach-some;
    reach_few = rw (reach-is xs t) t.right.reach_few;
    rules-few = rw (rules-is xs t) t.right.rules-few;
    rule_end = λ r h.
        omega (
          arith,
          rule-ends xs t r (in_rules h),
          values-some t.sheet (rule_of t.sheet r) (λ f k. (t.right.field f k).some) (rule-right xs t r (in_rules h)),
        );
    rule-after = λ r h. rw (rule-values xs t r (in_rules h)) (rule-ends xs t r (in_rules h));
    apart = λ r h. rw (first-is xs t r (in_rules h), second_is xs t r (in_rules h)) (rule-right xs t r (in_rules h)).apart;
    within = λ r h. rw (second_is xs t r (in_rules h), fields-count xs t) (rule-right xs t r (in_rules h)).within;
    kind-le = λ r h. rw (kind-is xs t r (in_rules h)) (rule-right xs t r (in_rules h)).kind-le;
    mask_lt = λ r a h z k.
        let l = in_rules h in
        let g = rule-right xs t r l in
        let i = ap (count_of xs) (first-is xs t r l) ∙ count-is xs t (rule_of t.sheet r).i (first_in l) in
        let j = ap (count_of xs) (second_is xs t r l) ∙ count-is xs t (rule_of t.sheet r).j g.within in
        let m = mask-of t.sheet (rule_of t.sheet r) a g (sym (kind-is xs t r l) ∙ z) (rw i at k) in
        (rw (value-is xs t r a l m.0, j) m.1, omega (arith, rule-ends xs t r l, m.0));
    amount_le = λ r h z.
        let l = in_rules h in
        let m = amount_of t.sheet (rule_of t.sheet r) (rule-right xs t r l) (λ q. z (kind-is xs t r l ∙ q)) in
        let q = value-is xs t r 0 l m.0 in
        omega (arith, q, m.1);
    rule-rise = λ r h.
        let l = in_rules h in
        rw (first-is xs t r (omega arith), second_is xs t r (omega arith), first-is xs t (suc r) l, second_is xs t (suc r) l)
        (ruled-next (length t.sheet.fields) 0 (counted t.sheet) t.sheet.rules t.right.ruled r l);
    triples-few = rw (triples-is xs t) t.right.triples-few;
    triple_end = λ k h. triple-ends xs t k (in_triples h);
    triple-apart = λ k h.
        let l = in_triples h in rw (triple-first-is xs t k l, triple-second-is xs t k l) (triple-right xs t k l).apart;
    triple-above = λ k h.
        let l = in_triples h in rw (triple-second-is xs t k l, triple-third-is xs t k l) (triple-right xs t k l).above;
    triple-within = λ k h.
        let l = in_triples h in rw (triple-third-is xs t k l, fields-count xs t) (triple-right xs t k l).within;
    triple_amount-le = λ k h. let l = in_triples h in rw (triple-number-is xs t k l) (triple-right xs t k l).amount_le;
    triple-rise = λ k h.
        let l = in_triples h in
        let m : k < length t.sheet.triples = omega arith in
        rw (
          triple-first-is xs t k m,
          triple-second-is xs t k m,
          triple-third-is xs t k m,
          triple-first-is xs t (suc k) l,
          triple-second-is xs t (suc k) l,
          triple-third-is xs t (suc k) l,
        )
        (tripled-next (length t.sheet.fields) 0 t.sheet.triples t.right.tripled k l);
  }

-- The facts of an accepted sheet.
pub facts : (xs : List ℕ) → Accepted xs → Facts xs
facts xs e = sheet-facts xs (sheet-in xs e)

-- each rule's place, and that after the last, lies within the list or at its end
rule-start-le : (xs : List ℕ) → Accepted xs → (r : ℕ) → r ≤ rules_of xs → rule_start xs r ≤ length xs
unfolding rule_start
rule-start-le xs a zero h = (facts xs a).tail_end
rule-start-le xs a (suc r) h = (facts xs a).rule-after r h

pub triples-at-le : (xs : List ℕ) → Accepted xs → triples_at xs ≤ length xs
triples-at-le xs a = rule-start-le xs a (rules_of xs) (omega arith)

-- ---- a rule that stands at a place

module _ (xs : List ℕ) (r place : ℕ) (g : RuleAt xs r place) where
  pub rule-ends-at : place + 3 < length xs
  rule-ends-at = rw g.at ((facts xs g.accepted).rule_end r g.within)

  pub rule-after-at : rule_start xs (r + 1) ≤ length xs
  rule-after-at = rw (rule-next xs r) ((facts xs g.accepted).rule-after r g.within)

  pub mask-ends-at : (a : ℕ) → kind_of xs r ≡ 0 → a < count_of xs (first_of xs r) → place + 3 + a < length xs
  mask-ends-at a z h = rw g.at ((facts xs g.accepted).mask_lt r a g.within z h).1

-- a triple that stands at a place
pub triple-ends-at : (xs : List ℕ) (t place : ℕ) → TripleAt xs t place → place + 3 < length xs
triple-ends-at xs t place g = rw g.at ((facts xs g.accepted).triple_end t g.within)
