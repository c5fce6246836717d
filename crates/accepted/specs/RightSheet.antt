-- The numbers of a right sheet are accepted, and the writer refuses them where a rule has the retired kind. Assumes nothing.
use Rattle.std.specs.Prelude.{◌≡◌, refl, Bool, true, false, ◌&&◌, ◌||◌, List, [], ◌∷◌, ◌++◌, ℕ, zero, suc, ◌+◌, ◌-◌, ◌^◌, ◌<◌, ◌≤◌, ltb}
use Rattle.std.specs.Prelude.{eqb, length, get_or, set, Result}
use Rattle.std.proofs.Common.{sym, ap, ap₂, ◌∙◌, inl, inr, append_assoc, add-zero, zero-add, arith, length-set, get_or-set_same}
use Rattle.std.proofs.Common.{get_or-set_other, lt-ltb, le-ltb, le-leb, eq-eqb, ne_eqb}
use Rattle.masks.specs.Pick.{pick, pick_true, pick-false}
use Rattle.limits.specs.Limits.{most_fields, most_settings, largest_setting, whole_reach, most_rules, most_triples, last_kind, retired_kind}
use Rattle.limits.specs.declared.refusals.Refusal.{Refusal}
use Rattle.grammar.specs.Grammar.{advance, start, no_counts, up_to, after_field, after_rule, after_kind, key, after_triple, triple_key}
use Rattle.sheet.specs.Sources.{refusal_from, refusal_after, of_numbers, retired_from, retired_after}
use Rattle.accepted.specs.Sheets.{Rule, Sheet, fields_numbers, rules_numbers, sheet_numbers, Rises, rises-none, rises-one, Below}
use Rattle.accepted.specs.Sheets.{below_none, below_one, FieldRight, ValuesRight, RuleRight, Ruled, ruled-none, ruled-one, Right}
use Rattle.accepted.specs.Sheets.{counted, retired_rules, Triple, triples_numbers, triples_part, TripleRight, key_of_triple}
use Rattle.accepted.specs.Sheets.{Tripled, tripled-none, tripled-one}
use Rattle.accepted.specs.AcceptedRules.{d_of}
use Rattle.accepted.specs.AcceptedSheet.{ruled-same}
use Rattle.grammar.specs.declared.grammar.Expected.TheVariants.{Count, Setting, Reach, First, Mask, Amount, Triples, TripleFirst}
use Rattle.grammar.specs.declared.grammar.State.{State}
use Rattle.grammar.specs.declared.grammar.State.TheVariants.{Wants, Complete}

-- From a state on, with the counts ds: the numbers are accepted, and `met` says whether the retired kind is among them.
abbrev Taken : State → List ℕ → List ℕ → Bool → Type 0
Taken st ds xs met = (refusal_from st ds (of_numbers xs) ≡ 0) × (retired_from st ds xs ≡ met)

-- so after a number
abbrev TakenAfter : Result State Refusal → List ℕ → List ℕ → Bool → Type 0
TakenAfter r ds xs met = (refusal_after r ds (of_numbers xs) ≡ 0) × (retired_after r ds xs ≡ met)

-- a number in its range, or in its order
within : {met : Bool} (t : Bool) (a b : Result State Refusal) (ds xs : List ℕ) → t ≡ true → TakenAfter a ds xs met
    → TakenAfter (pick t a b) ds xs met
within t a b ds xs e h = rw (pick_true t a b e) h

-- a place that a test leads to
to-true : {met : Bool} (t : Bool) (a b : State) (ds xs : List ℕ) → t ≡ true → Taken a ds xs met → Taken (pick t a b) ds xs met
to-true t a b ds xs e h = rw (pick_true t a b e) h

to-false : {met : Bool} (t : Bool) (a b : State) (ds xs : List ℕ) → t ≡ false → Taken b ds xs met → Taken (pick t a b) ds xs met
to-false t a b ds xs e h = rw (pick-false t a b e) h

up_to-by : (most x : ℕ) → 1 ≤ x → x ≤ most → up_to most x ≡ true
up_to-by most x p q = ap₂ ◌&&◌ (le-leb 1 x p) (le-leb x most q)

-- `left` more, or none
after_none : {met : Bool} (left : ℕ) (a b : State) (ds xs : List ℕ) → left ≡ 0 → Taken a ds xs met → Taken (pick (eqb left 0) a b) ds xs met
after_none left a b ds xs e h = to-true _ a b ds xs (eq-eqb left 0 e) h

after_more : {met : Bool} (left : ℕ) (a b : State) (ds xs : List ℕ) → 0 < left → Taken b ds xs met → Taken (pick (eqb left 0) a b) ds xs met
after_more left a b ds xs p h = to-false _ a b ds xs (ne_eqb left 0 (λ e. omega arith)) h

settings-by : {met : Bool} (f left floor n : ℕ) (ds zs rest : List ℕ) → Rises floor zs → length zs ≡ suc left
    → Taken (after_field n f) ds rest met
    → Taken (Wants n (Setting f left floor)) ds (zs ++ rest) met
unfolding refusal_from retired_from advance
settings-by f left floor n ds zs rest rises-none e h = absurd (omega arith)
settings-by f left floor n ds zs rest (rises-one {x = x} {xs = []} p q t) e h =
    within _ _ _ ds rest (le-leb x largest_setting q)
    (within _ _ _ ds rest (le-leb floor x p) (after_none left _ _ ds rest (omega arith) h))
settings-by f left floor n ds zs rest (rises-one {x = x} {xs = y ∷ ys} p q t) e h =
    within _ _ _ ds (y ∷ ys ++ rest) (le-leb x largest_setting q)
    (within _ _ _ ds (y ∷ ys ++ rest) (le-leb floor x p)
    (after_more left _ _ ds (y ∷ ys ++ rest) (omega arith)
    (settings-by f (left - 1) (x + 1) n ds (y ∷ ys) rest t (omega arith) h)))

count_by : {met : Bool} (f n : ℕ) (ds z rest : List ℕ) → FieldRight z → Taken (after_field n f) (set ds f (length z)) rest met
    → Taken (Wants n (Count f)) ds (length z ∷ (z ++ rest)) met
unfolding refusal_from retired_from advance
count_by f n ds z rest r h =
    let p = r.some in
    within _ _ _ (set ds f (length z)) (z ++ rest) (up_to-by most_settings (length z) p r.few)
    (settings-by f (length z - 1) 0 n (set ds f (length z)) z rest r.rise (omega arith) h)

-- the counts of fields from f on
counts_from : List ℕ → ℕ → List (List ℕ) → List ℕ
counts_from ds f [] = ds
counts_from ds f (z ∷ fs) = counts_from (set ds f (length z)) (f + 1) fs

counts-before : (ds : List ℕ) (f : ℕ) (fs : List (List ℕ)) (k : ℕ) → k < f → get_or (counts_from ds f fs) k 0 ≡ get_or ds k 0
unfolding counts_from
counts-before ds f [] k h = refl
counts-before ds f (z ∷ fs) k h =
    counts-before (set ds f (length z)) (f + 1) fs k (omega arith) ∙ get_or-set_other ds f k (length z) 0 (λ r. absurd (omega (arith, r)))

counts-after : (ds : List ℕ) (f : ℕ) (fs : List (List ℕ)) (k : ℕ) → f + length fs ≤ length ds → k < length fs
    → get_or (counts_from ds f fs) (f + k) 0 ≡ length (get_or fs k [])
unfolding counts_from
counts-after ds f [] k h l = absurd (omega arith)
counts-after ds f (z ∷ fs) zero h l =
    ap (λ (i : ℕ). get_or (counts_from (set ds f (length z)) (f + 1) fs) i 0) (add-zero f)
    ∙ counts-before (set ds f (length z)) (f + 1) fs f (omega arith) ∙ get_or-set_same ds f (length z) 0 (omega arith)
counts-after ds f (z ∷ fs) (suc k) h l =
    let q : f + suc k ≡ f + 1 + k = omega arith in
    ap (λ (i : ℕ). get_or (counts_from (set ds f (length z)) (f + 1) fs) i 0) q
    ∙ counts-after (set ds f (length z)) (f + 1) fs k (omega (arith, length-set ds f (length z))) (omega arith)

fields-by : {met : Bool} (fs : List (List ℕ)) (f n : ℕ) (ds rest : List ℕ) → ((k : ℕ) → k < length fs → FieldRight (get_or fs k []))
    → f + length fs ≡ n → Taken (Wants n Reach) (counts_from ds f fs) rest met
    → Taken (pick (ltb f n) (Wants n (Count f)) (Wants n Reach)) ds (fields_numbers fs ++ rest) met
unfolding counts_from fields_numbers
fields-by {met = met} [] f n ds rest g e h = to-false _ _ _ ds rest (le-ltb f n (omega arith)) h
fields-by {met = met} (z ∷ fs) f n ds rest g e h =
    to-true _ _ _ ds (length z ∷ ((z ++ fields_numbers fs) ++ rest)) (lt-ltb f n (omega arith))
    (field (g 0 (omega arith)) (fields-by fs (f + 1) n (set ds f (length z)) rest (λ k l. g (suc k) (omega arith)) (omega arith) h))
  where
    field : FieldRight z → Taken (after_field n f) (set ds f (length z)) (fields_numbers fs ++ rest) met
        → Taken (Wants n (Count f)) ds (length z ∷ ((z ++ fields_numbers fs) ++ rest)) met
    field r q = rw (append_assoc z (fields_numbers fs) rest) (count_by f n ds z (fields_numbers fs ++ rest) r q)

masks-by : {met : Bool} (left floor j more n : ℕ) (ds vs rest : List ℕ) → Below (2 ^ get_or ds j 0) vs → length vs ≡ suc more
    → Taken (after_rule n left floor) ds rest met
    → Taken (Wants n (Mask left floor j more)) ds (vs ++ rest) met
unfolding refusal_from retired_from advance
masks-by {met} left floor j more n ds vs rest below size h = go more vs below size
  where
    go : (more : ℕ) (vs : List ℕ) → Below (2 ^ get_or ds j 0) vs → length vs ≡ suc more
        → Taken (Wants n (Mask left floor j more)) ds (vs ++ rest) met
    go more vs below_none e = absurd (omega arith)
    go more vs (below_one {x = x} {xs = []} p t) e =
        within _ _ _ ds rest (lt-ltb x _ p) (after_none more _ _ ds rest (omega arith) h)
    go more vs (below_one {x = x} {xs = y ∷ ys} p t) e =
        within _ _ _ ds (y ∷ ys ++ rest) (lt-ltb x _ p)
        (after_more more _ _ ds (y ∷ ys ++ rest) (omega arith) (go (more - 1) (y ∷ ys) t (omega arith)))

amount_by : {met : Bool} (left floor n : ℕ) (ds vs rest : List ℕ) → Below (largest_setting + 1) vs → length vs ≡ 1
    → Taken (after_rule n left floor) ds rest met
    → Taken (Wants n (Amount left floor)) ds (vs ++ rest) met
unfolding refusal_from retired_from advance
amount_by left floor n ds vs rest below_none e h = absurd (omega arith)
amount_by left floor n ds vs rest (below_one {x = x} {xs = []} p t) e h =
    within _ _ _ ds rest (le-leb x largest_setting (omega arith)) h
amount_by left floor n ds vs rest (below_one {x = x} {xs = y ∷ ys} p t) e h = absurd (omega arith)

values-by : {met : Bool} (left floor n : ℕ) (ds rest : List ℕ) (r : Rule) → 1 ≤ get_or ds r.i 0 → ValuesRight (d_of ds) r
    → Taken (after_rule n left floor) ds rest met
    → Taken (after_kind n left floor r.j (get_or ds r.i 0) r.kind) ds (r.values ++ rest) met
values-by left floor n ds rest r p (inl v) h =
    to-true _ _ _ ds (r.values ++ rest) (eq-eqb r.kind 0 v.0)
    (masks-by left floor r.j (get_or ds r.i 0 - 1) n ds r.values rest v.2 (omega (arith, v.1)) h)
values-by left floor n ds rest r p (inr v) h =
    to-false _ _ _ ds (r.values ++ rest) (ne_eqb r.kind 0 v.0)
    (amount_by left floor n ds r.values rest v.2 v.1 h)

rule-by : {met : Bool} (left floor n : ℕ) (ds rest : List ℕ) (r : Rule) → floor ≤ key r.i r.j → RuleRight n (d_of ds) r
    → 1 ≤ get_or ds r.i 0 → Taken (after_rule n left (key r.i r.j + 1)) ds rest met
    → Taken (Wants n (First left floor)) ds (r.i ∷ r.j ∷ r.kind ∷ (r.values ++ rest)) (eqb r.kind retired_kind || met)
unfolding refusal_from retired_from advance
rule-by left floor n ds rest r l g p h =
    let a = g.apart in
    let b = g.within in
    let taken =
    within _ _ _ ds (r.values ++ rest) (le-leb r.kind last_kind g.kind-le)
    (values-by left (key r.i r.j + 1) n ds rest r p g.numbers h) in
    within _ _ _ ds (r.j ∷ r.kind ∷ (r.values ++ rest)) (lt-ltb r.i n (omega arith))
    (within _ _ _ ds (r.kind ∷ (r.values ++ rest)) (lt-ltb r.j n b)
    (within _ _ _ ds (r.kind ∷ (r.values ++ rest)) (ap₂ ◌&&◌ (lt-ltb r.i r.j a) (le-leb floor (key r.i r.j) l))
    (taken.0, ap (λ (m : Bool). eqb r.kind retired_kind || m) taken.1)))

rules-by : (floor n : ℕ) (ds rest : List ℕ) (rs : List Rule) → ((k : ℕ) → k < n → 1 ≤ get_or ds k 0) → Ruled n (d_of ds) floor rs
    → Taken (Wants n Triples) ds rest false → Taken (after_rule n (length rs) floor) ds (rules_numbers rs ++ rest) (retired_rules rs)
unfolding rules_numbers retired_rules
rules-by floor n ds rest rs p ruled h = go floor rs ruled
  where
    go : (low : ℕ) (rs : List Rule) → Ruled n (d_of ds) low rs
        → Taken (after_rule n (length rs) low) ds (rules_numbers rs ++ rest) (retired_rules rs)
    go low rs ruled-none = after_none 0 (Wants n Triples) (Wants n (First (0 - 1) low)) ds rest refl h
    go low rs (ruled-one {r = r} {rs = ts} l g t) =
        let a = g.apart in
        let b = g.within in
        let e : length ts ≡ suc (length ts) - 1 = omega arith in
        after_more (suc (length ts)) (Wants n Triples) (Wants n (First (suc (length ts) - 1) low)) ds
        (r.i ∷ r.j ∷ r.kind ∷ ((r.values ++ rules_numbers ts) ++ rest)) (omega arith)
        (rw (sym e, append_assoc r.values (rules_numbers ts) rest)
        (rule-by (length ts) low n ds (rules_numbers ts ++ rest) r l g (p r.i (omega arith))
        (go (key r.i r.j + 1) ts t)))

triple-by : {met : Bool} (left floor n : ℕ) (ds rest : List ℕ) (t : Triple) → floor ≤ key_of_triple t → TripleRight n t
    → Taken (after_triple n left (key_of_triple t + 1)) ds rest met
    → Taken (Wants n (TripleFirst left floor)) ds (t.i ∷ t.j ∷ t.k ∷ t.c ∷ rest) met
unfolding refusal_from retired_from advance
triple-by left floor n ds rest t l g h =
    let a = g.apart in
    let b = g.above in
    let w = g.within in
    within _ _ _ ds (t.j ∷ t.k ∷ t.c ∷ rest) (lt-ltb t.i n (omega arith))
    (within _ _ _ ds (t.k ∷ t.c ∷ rest) (lt-ltb t.j n (omega arith))
    (within _ _ _ ds (t.k ∷ t.c ∷ rest) (lt-ltb t.i t.j a)
    (within _ _ _ ds (t.c ∷ rest) (lt-ltb t.k n w)
    (within _ _ _ ds (t.c ∷ rest) (ap₂ ◌&&◌ (lt-ltb t.j t.k b) (le-leb floor (triple_key t.i t.j t.k) l))
    (within _ _ _ ds rest (le-leb t.c largest_setting g.amount_le) h)))))

triples-by : (floor n : ℕ) (ds : List ℕ) (ts : List Triple) → Tripled n floor ts
    → Taken (after_triple n (length ts) floor) ds (triples_numbers ts) false
unfolding refusal_from retired_from triples_numbers
triples-by floor n ds ts tripled = go floor ts tripled
  where
    go : (low : ℕ) (ts : List Triple) → Tripled n low ts → Taken (after_triple n (length ts) low) ds (triples_numbers ts) false
    go low ts tripled-none = after_none 0 Complete (Wants n (TripleFirst (0 - 1) low)) ds [] refl (refl, refl)
    go low ts (tripled-one {t = t} {ts = us} l g r) =
        let e : length us ≡ suc (length us) - 1 = omega arith in
        after_more (suc (length us)) Complete (Wants n (TripleFirst (suc (length us) - 1) low)) ds
        (t.i ∷ t.j ∷ t.k ∷ t.c ∷ triples_numbers us) (omega arith)
        (rw (sym e) (triple-by (length us) low n ds (triples_numbers us) t l g (go (key_of_triple t + 1) us r)))

-- what stands after the rules
part_by : (n : ℕ) (ds : List ℕ) (ts : List Triple) → length ts ≤ most_triples → Tripled n 0 ts
    → Taken (Wants n Triples) ds (triples_part ts) false
unfolding refusal_from retired_from advance triples_part
part_by n ds [] few r = (refl, refl)
part_by n ds (t ∷ ts) few r =
    within _ _ _ ds (triples_numbers (t ∷ ts)) (up_to-by most_triples (length (t ∷ ts)) (omega arith) few) (triples-by 0 n ds (t ∷ ts) r)

-- The numbers of a right sheet are accepted, and the retired kind is among them where a rule has it.
pub right-taken : (s : Sheet) → Right s → Taken start no_counts (sheet_numbers s) (retired_rules s.rules)
unfolding refusal_from retired_from advance sheet_numbers
right-taken s g =
    let fs = s.fields in
    let n = length fs in
    let p = g.some in
    let q = g.few in
    let ds = counts_from no_counts 0 fs in
    let same : (k : ℕ) → k < n → counted s k ≡ get_or ds k 0 =
    λ k h. sym (ap (λ (i : ℕ). get_or ds i 0) (sym (zero-add k)) ∙ counts-after no_counts 0 fs k (omega arith) h) in
    let last = rules_numbers s.rules ++ triples_part s.triples in
    let rest = s.reach ∷ length s.rules ∷ last in
    within _ _ _ no_counts (fields_numbers fs ++ rest) (up_to-by most_fields n p q)
    (rw (pick_true (ltb 0 n) (Wants n (Count 0)) (Wants n Reach) (lt-ltb 0 n p)) at
    (fields-by fs 0 n no_counts rest g.field (zero-add n)
    (within _ _ _ ds (length s.rules ∷ last)
    (up_to-by whole_reach s.reach g.reach-some g.reach_few)
    (within _ _ _ ds last (le-leb (length s.rules) most_rules g.rules-few)
    (rules-by 0 n ds (triples_part s.triples) s.rules (λ k h. rw (← same k h) (g.field k h).some)
    (ruled-same n 0 (counted s) (d_of ds) s.rules same g.ruled)
    (part_by n ds s.triples g.triples-few g.tripled))))))
