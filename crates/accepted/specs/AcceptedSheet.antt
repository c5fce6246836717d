-- An accepted list is the numbers of a right sheet. Assumes nothing.
use Rattle.std.specs.Prelude.{◌≡◌, refl, List, [], ◌∷◌, ◌++◌, ℕ, ◌<◌, ◌≤◌, ltb, leb, length, get_or, Ok}
use Rattle.std.proofs.Common.{sym, ap, ap₂, ◌∙◌, inl, inr, zero-add, arith, lt-ltb, leb-true}
use Rattle.masks.specs.Pick.{pick_true}
use Rattle.limits.specs.Limits.{most_fields, whole_reach, most_rules}
use Rattle.grammar.specs.Grammar.{advance, no_counts, after_rule}
use Rattle.sheet.specs.Sources.{refusal_from, of_numbers, Accepted}
use Rattle.accepted.specs.Sheets.{Rule, fields_numbers, rules_numbers, sheet_numbers, ValuesRight, Ruled, ruled-none, ruled-one, IsSheet}
use Rattle.accepted.specs.Accept.{ranged_in, up_to-le}
use Rattle.grammar.specs.declared.grammar.Expected.TheVariants.{Count, Reach}
use Rattle.grammar.specs.declared.grammar.State.TheVariants.{Wants}
use Rattle.accepted.specs.AcceptedFields.{FieldsIn, fields_in}
use Rattle.accepted.specs.AcceptedRules.{d_of, rules_in}
use Rattle.accepted.specs.AcceptedTriples.{part_in}

values_same : (d d' : ℕ → ℕ) (r : Rule) → d r.i ≡ d' r.i → d r.j ≡ d' r.j → ValuesRight d r → ValuesRight d' r
values_same d d' r p q (inl v) = inl (v.0, v.1 ∙ p, (rw q at v).2)
values_same d d' r p q (inr v) = inr v

pub ruled-same : (n floor : ℕ) (d d' : ℕ → ℕ) (rs : List Rule) → ((k : ℕ) → k < n → d k ≡ d' k) → Ruled n d floor rs → Ruled n d' floor rs
ruled-same n floor d d' rs h ruled = go floor rs ruled
  where
    go : (low : ℕ) (rs : List Rule) → Ruled n d low rs → Ruled n d' low rs
    go low rs ruled-none = ruled-none
    go low rs (ruled-one {r = r} {rs = ts} l g t) =
        let a = g.apart in
        let b = g.within in
        ruled-one l
        (record {
          apart = a;
          within = b;
          kind-le = g.kind-le;
          numbers = values_same d d' r (h r.i (omega arith)) (h r.j b) g.numbers;
        })
        (go _ ts t)

sheet_of : (n reach e : ℕ) (ys zs : List ℕ) → 1 ≤ n → n ≤ most_fields → (t : FieldsIn 0 n n no_counts ys) → t.rest ≡ reach ∷ e ∷ zs
    → 1 ≤ reach → reach ≤ whole_reach → e ≤ most_rules → refusal_from (after_rule n e 0) t.counts (of_numbers zs) ≡ 0 → IsSheet (n ∷ ys)
unfolding sheet_numbers
sheet_of n reach e ys zs p q t z a b c on =
    let u = rules_in e 0 n t.counts zs (λ k h. rw (same k h) (t.right k (rw t.size h)).some) on in
    let v = part_in n t.counts u.rest u.on in
    record {
      sheet = record { fields = t.fields; reach = reach; rules = u.rules; triples = v.triples };
      split = ap₂ ◌∷◌ (sym t.size) (t.split ∙ ap (λ (y : List ℕ). fields_numbers t.fields ++ y)
          (z ∙ ap₂ (λ (i : ℕ) (y : List ℕ). reach ∷ i ∷ y) (sym u.size)
          (u.split ∙ ap (λ (y : List ℕ). rules_numbers u.rules ++ y) v.split)));
      right = record {
        some = rw t.size p;
        few = rw t.size q;
        field = t.right;
        reach-some = a;
        reach_few = b;
        rules-few = rw u.size c;
        ruled = rw t.size (ruled-same n 0 (d_of t.counts) (λ f. length (get_or t.fields f [])) u.rules same u.ruled);
        triples-few = v.few;
        tripled = rw t.size v.tripled;
      };
    }
  where
    same : (k : ℕ) → k < n → get_or t.counts k 0 ≡ length (get_or t.fields k [])
    same k h = ap (λ (i : ℕ). get_or t.counts i 0) (sym (zero-add k)) ∙ t.after k (rw t.size h)

pub sheet-in : (xs : List ℕ) → Accepted xs → IsSheet xs
unfolding refusal_from advance
sheet-in [] e = absurd (omega arith)
sheet-in (n ∷ ys) e =
    let r = ranged_in _ (Ok (Wants n (Count 0))) no_counts (of_numbers ys) e in
    let b = up_to-le most_fields n r.0 in
    let t =
    fields_in n 0 n no_counts ys (zero-add n) b.1
    (rw (pick_true (ltb 0 n) (Wants n (Count 0)) (Wants n Reach) (lt-ltb 0 n b.0)) r.1) in
    go b.0 b.1 t t.rest refl t.on
  where
    go : 1 ≤ n → n ≤ most_fields → (t : FieldsIn 0 n n no_counts ys) → (zs : List ℕ) → t.rest ≡ zs
        → refusal_from (Wants n Reach) t.counts (of_numbers zs) ≡ 0 → IsSheet (n ∷ ys)
    go p q t [] z on = absurd (omega arith)
    go p q t (reach ∷ []) z on = let r = (ranged_in _ _ t.counts [] on).1 in absurd (omega arith)
    go p q t (reach ∷ k ∷ zs) z on =
        let r = ranged_in _ _ t.counts (of_numbers (k ∷ zs)) on in
        let m = ranged_in (leb k most_rules) _ t.counts (of_numbers zs) r.1 in
        let b = up_to-le whole_reach reach r.0 in
        sheet_of n reach k ys zs p q t z b.0 b.1 (leb-true k most_rules m.0) m.1
