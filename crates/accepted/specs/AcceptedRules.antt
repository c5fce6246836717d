-- The rules of an accepted list: what it has from each place of a rule on. Assumes nothing.
use Rattle.std.specs.Prelude.{◌≡◌, refl, true, List, [], ◌∷◌, ◌++◌, ℕ, zero, suc, ◌+◌, ◌-◌, ◌^◌, ◌<◌, ◌≤◌, ltb, leb, eqb, length, get_or}
use Rattle.std.proofs.Common.{sym, ap, ◌∙◌, inl, inr, ⊎_elim, append_assoc, arith, leb-true, ltb-true, eqb-true}
use Rattle.std.proofs.lemmas.Bool.{eqb-false}
use Rattle.limits.specs.Limits.{largest_setting, last_kind}
use Rattle.grammar.specs.Grammar.{advance, after_rule, after_mask, after_kind, key, rising}
use Rattle.sheet.specs.Sources.{refusal_from, of_numbers}
use Rattle.accepted.specs.Sheets.{Rule, rules_numbers, Below, below_none, below_one, RuleRight, Ruled, ruled-none, ruled-one}
use Rattle.accepted.specs.Accept.{ranged_in, ordered_in, pick_in, both}
use Rattle.grammar.specs.declared.grammar.Expected.TheVariants.{First, Mask, Amount, Triples}
use Rattle.grammar.specs.declared.grammar.State.TheVariants.{Wants}

abbrev pub d_of : List ℕ → ℕ → ℕ
d_of ds k = get_or ds k 0

pub record ValuesIn (left floor n : ℕ) (ds ys : List ℕ) (P : List ℕ → Type 0) : Type 0 where
  pub values : List ℕ
  pub rest : List ℕ
  pub split : ys ≡ values ++ rest
  pub right : P values
  pub on : refusal_from (after_rule n left floor) ds (of_numbers rest) ≡ 0

abbrev Masks : ℕ → ℕ → List ℕ → Type 0
Masks size b values = (length values ≡ size) × Below b values

masks-one : (left floor j more n x : ℕ) (ds ys : List ℕ) → x < 2 ^ get_or ds j 0
    → ((l : ℕ) → refusal_from (Wants n (Mask left floor j l)) ds (of_numbers ys) ≡ 0
    → ValuesIn left floor n ds ys (Masks (suc l) (2 ^ get_or ds j 0)))
    → refusal_from (after_mask n left floor j more) ds (of_numbers ys) ≡ 0
    → ValuesIn left floor n ds (x ∷ ys) (Masks (suc more) (2 ^ get_or ds j 0))
masks-one left floor j more n x ds ys h ih e =
    ⊎_elim
    (λ r. record {
      values = x ∷ [];
      rest = ys;
      split = refl;
      right = (ap suc (sym (eqb-true more 0 r.0)), below_one h below_none);
      on = r.1;
    })
    (λ r. let t = ih (more - 1) r.1 in record {
      values = x ∷ t.values;
      rest = t.rest;
      split = ap (λ (l : List ℕ). x ∷ l) t.split;
      right = (let q = eqb-false more 0 r.0 in omega (arith, t.right.0), below_one h t.right.1);
      on = t.on;
    })
    (pick_in (eqb more 0) (after_rule n left floor) (Wants n (Mask left floor j (more - 1))) ds (of_numbers ys) e)

masks_in : (ys : List ℕ) (left floor j more n : ℕ) (ds : List ℕ) → refusal_from (Wants n (Mask left floor j more)) ds (of_numbers ys) ≡ 0
    → ValuesIn left floor n ds ys (Masks (suc more) (2 ^ get_or ds j 0))
unfolding refusal_from advance
masks_in [] left floor j more n ds e = absurd (omega arith)
masks_in (x ∷ ys) left floor j more n ds e =
    let r = ranged_in (ltb x (2 ^ get_or ds j 0)) _ ds (of_numbers ys) e in
    masks-one left floor j more n x ds ys (ltb-true x _ r.0) (λ l. masks_in ys left floor j l n ds) r.1

amount_in : (ys : List ℕ) (left floor n : ℕ) (ds : List ℕ) → refusal_from (Wants n (Amount left floor)) ds (of_numbers ys) ≡ 0
    → ValuesIn left floor n ds ys (Masks 1 (largest_setting + 1))
unfolding refusal_from advance
amount_in [] left floor n ds e = absurd (omega arith)
amount_in (x ∷ ys) left floor n ds e =
    let r = ranged_in (leb x largest_setting) _ ds (of_numbers ys) e in
    let h : x < largest_setting + 1 = omega (arith, leb-true x largest_setting r.0) in
    record { values = x ∷ []; rest = ys; split = refl; right = (refl, below_one h below_none); on = r.1 }

pub record RuleIn (left floor n : ℕ) (ds ys : List ℕ) : Type 0 where
  pub rule : Rule
  pub rest : List ℕ
  pub split : ys ≡ rule.i ∷ rule.j ∷ rule.kind ∷ (rule.values ++ rest)
  pub rise : floor ≤ key rule.i rule.j
  pub right : RuleRight n (d_of ds) rule
  pub on : refusal_from (after_rule n left (key rule.i rule.j + 1)) ds (of_numbers rest) ≡ 0

rule-of : (left floor n i j kind : ℕ) (ds ys : List ℕ) → i < j → j < n → floor ≤ key i j → kind ≤ last_kind → 1 ≤ get_or ds i 0
    → refusal_from (after_kind n left (key i j + 1) j (get_or ds i 0) kind) ds (of_numbers ys) ≡ 0
    → RuleIn left floor n ds (i ∷ j ∷ kind ∷ ys)
rule-of left floor n i j kind ds ys a b c d s e =
    ⊎_elim
    (λ r. let t = masks_in ys left (key i j + 1) j (get_or ds i 0 - 1) n ds r.1 in record {
      rule = record { i = i; j = j; kind = kind; values = t.values };
      rest = t.rest;
      split = ap (λ (l : List ℕ). i ∷ j ∷ kind ∷ l) t.split;
      rise = c;
      right =
          record { apart = a; within = b; kind-le = d; numbers = inl (eqb-true kind 0 r.0, omega (arith, t.right.0), t.right.1) };
      on = t.on;
    })
    (λ r. let t = amount_in ys left (key i j + 1) n ds r.1 in record {
      rule = record { i = i; j = j; kind = kind; values = t.values };
      rest = t.rest;
      split = ap (λ (l : List ℕ). i ∷ j ∷ kind ∷ l) t.split;
      rise = c;
      right = record { apart = a; within = b; kind-le = d; numbers = inr (eqb-false kind 0 r.0, t.right.0, t.right.1) };
      on = t.on;
    })
    (pick_in (eqb kind 0) _ _ ds (of_numbers ys) e)

rising_le : (i j floor : ℕ) → rising i j floor ≡ true → (i < j) × (floor ≤ key i j)
rising_le i j floor e = let b = both (ltb i j) (leb floor (key i j)) e in (ltb-true i j b.0, leb-true floor (key i j) b.1)

rule_in : (ys : List ℕ) (left floor n : ℕ) (ds : List ℕ) → ((k : ℕ) → k < n → 1 ≤ get_or ds k 0)
    → refusal_from (Wants n (First left floor)) ds (of_numbers ys) ≡ 0 → RuleIn left floor n ds ys
unfolding refusal_from advance
rule_in [] left floor n ds h e = absurd (omega arith)
rule_in (i ∷ []) left floor n ds h e = let r = (ranged_in (ltb i n) _ ds [] e).1 in absurd (omega arith)
rule_in (i ∷ j ∷ []) left floor n ds h e =
    let r = ranged_in (ltb i n) _ ds (of_numbers (j ∷ [])) e in
    let q = ranged_in (ltb j n) _ ds [] r.1 in
    let o = (ordered_in (rising i j floor) _ ds [] q.1).1 in
    absurd (omega arith)
rule_in (i ∷ j ∷ kind ∷ ys) left floor n ds h e =
    let r = ranged_in (ltb i n) _ ds (of_numbers (j ∷ kind ∷ ys)) e in
    let q = ranged_in (ltb j n) _ ds (of_numbers (kind ∷ ys)) r.1 in
    let o = ordered_in (rising i j floor) _ ds (of_numbers (kind ∷ ys)) q.1 in
    let k = ranged_in (leb kind last_kind) _ ds (of_numbers ys) o.1 in
    let b = rising_le i j floor o.0 in
    rule-of left floor n i j kind ds ys b.0 (ltb-true j n q.0) b.1 (leb-true kind 5 k.0) (h i (ltb-true i n r.0)) k.1

pub record RulesIn (left floor n : ℕ) (ds ys : List ℕ) : Type 0 where
  pub rules : List Rule
  pub rest : List ℕ
  pub split : ys ≡ rules_numbers rules ++ rest
  pub size : length rules ≡ left
  pub ruled : Ruled n (d_of ds) floor rules
  pub on : refusal_from (Wants n Triples) ds (of_numbers rest) ≡ 0

-- a rule in front of those after it
rule-front : (r : Rule) (rs : List Rule) (ys zs rest : List ℕ) → ys ≡ r.i ∷ r.j ∷ r.kind ∷ (r.values ++ zs)
    → zs ≡ rules_numbers rs ++ rest → ys ≡ rules_numbers (r ∷ rs) ++ rest
unfolding rules_numbers
rule-front r rs ys zs rest p q =
    p ∙ ap (λ (y : List ℕ). r.i ∷ r.j ∷ r.kind ∷ y)
    (ap (λ (y : List ℕ). r.values ++ y) q ∙ sym (append_assoc r.values (rules_numbers rs) rest))

pub rules_in : (left floor n : ℕ) (ds ys : List ℕ) → ((k : ℕ) → k < n → 1 ≤ get_or ds k 0)
    → refusal_from (after_rule n left floor) ds (of_numbers ys) ≡ 0 → RulesIn left floor n ds ys
unfolding rules_numbers
rules_in zero floor n ds ys h e =
    ⊎_elim (λ r. record { rules = []; rest = ys; split = refl; size = refl; ruled = ruled-none; on = r.1 })
    (λ r. absurd (eqb-false 0 0 r.0 refl))
    (pick_in (eqb 0 0) (Wants n Triples) (Wants n (First (0 - 1) floor)) ds (of_numbers ys) e)
rules_in (suc left) floor n ds ys h e =
    ⊎_elim (λ r. absurd (omega (arith, eqb-true (suc left) 0 r.0)))
    (λ r.
    let l : left ≡ suc left - 1 = omega arith in
    let t = rule_in ys left floor n ds h (ap (λ (k : ℕ). refusal_from (Wants n (First k floor)) ds (of_numbers ys)) l ∙ r.1) in
    let u = rules_in left (key t.rule.i t.rule.j + 1) n ds t.rest h t.on in
    record {
      rules = t.rule ∷ u.rules;
      rest = u.rest;
      split = rule-front t.rule u.rules ys t.rest u.rest t.split u.split;
      size = ap suc u.size;
      ruled = ruled-one t.rise t.right u.ruled;
      on = u.on;
    })
    (pick_in (eqb (suc left) 0) (Wants n Triples) (Wants n (First (suc left - 1) floor)) ds (of_numbers ys) e)
