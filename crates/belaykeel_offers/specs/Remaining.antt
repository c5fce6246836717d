-- How many numbers of a sheet may still come: at most 8,184 from its beginning on, and each number leaves one less. Assumes nothing.
use Rattle.std.specs.Prelude.{◌≡◌, refl, Bool, true, false, List, [], ◌∷◌, ℕ, zero, suc, ◌+◌, ◌-◌, ◌*◌, ◌<◌, ◌≤◌, ltb, leb, eqb, get_or}
use Rattle.std.specs.Prelude.{set, replicate, Result, Ok, Err}
use Rattle.std.proofs.Common.{arith, ltb-true, leb-true}
use Rattle.std.proofs.lemmas.Bool.{eqb-false}
use Rattle.masks.specs.Tests.{and_l, and_r}
use Rattle.masks.specs.Pick.{pick}
use Rattle.limits.specs.Limits.{most_fields, most_settings, most_triples}
use Rattle.limits.specs.declared.refusals.Refusal.{Refusal}
use Rattle.grammar.specs.Grammar.{advance, up_to, ranged, ordered, after_field, after_rule, after_triple, key}
use Rattle.grammar.specs.declared.grammar.Expected.{Expected}
use Rattle.grammar.specs.declared.grammar.Expected.TheVariants.{Fields, Count, Setting, Reach, Rules, First, Second, Kind, Mask, Amount}
use Rattle.grammar.specs.declared.grammar.Expected.TheVariants.{Triples, TripleFirst, TripleSecond, TripleThird, TripleAmount}
use Rattle.grammar.specs.declared.grammar.State.{State}
use Rattle.grammar.specs.declared.grammar.State.TheVariants.{Wants, Complete}

-- the numbers of all triples and their count, and with those of all rules
abbrev triples_most : ℕ
triples_most = 129

abbrev rules_most : ℕ
rules_most = 7581

-- the most numbers from the expected one on
abbrev most : ℕ → Expected → ℕ
most n Fields = 8184
most n (Count f) = 25 * (n - f) + 2 + rules_most
most n (Setting f rest floor) = suc rest + 25 * (n - (f + 1)) + 2 + rules_most
most n Reach = 2 + rules_most
most n Rules = 1 + rules_most
most n (First rules floor) = 27 * rules + 27 + triples_most
most n (Second rules floor i) = 27 * rules + 26 + triples_most
most n (Kind rules i j) = 27 * rules + 25 + triples_most
most n (Mask rules floor j rest) = 27 * rules + suc rest + triples_most
most n (Amount rules floor) = 27 * rules + 1 + triples_most
most n Triples = triples_most
most n (TripleFirst triples floor) = 4 * triples + 4
most n (TripleSecond triples floor i) = 4 * triples + 3
most n (TripleThird triples floor i j) = 4 * triples + 2
most n (TripleAmount triples floor) = 4 * triples + 1

-- a field whose count or setting is expected is one of the n
abbrev Placed : ℕ → Expected → Type 0
Placed n Fields = Unit {0}
Placed n (Count f) = f < n
Placed n (Setting f rest floor) = f < n
Placed n Reach = Unit {0}
Placed n Rules = Unit {0}
Placed n (First rules floor) = Unit {0}
Placed n (Second rules floor i) = Unit {0}
Placed n (Kind rules i j) = Unit {0}
Placed n (Mask rules floor j rest) = Unit {0}
Placed n (Amount rules floor) = Unit {0}
Placed n Triples = Unit {0}
Placed n (TripleFirst triples floor) = Unit {0}
Placed n (TripleSecond triples floor i) = Unit {0}
Placed n (TripleThird triples floor i j) = Unit {0}
Placed n (TripleAmount triples floor) = Unit {0}

abbrev Low : List ℕ → Type 0
Low ds = (k : ℕ) → get_or ds k 0 ≤ most_settings

-- at most b numbers may still come
abbrev pub Fits : ℕ → State → List ℕ → Type 0
Fits b (Wants n e) ds = (most n e ≤ b) × Placed n e × Low ds
Fits b Complete ds = Unit {0}

-- so after a number
abbrev pub FitsAfter : ℕ → Result State Refusal → List ℕ → Type 0
FitsAfter b (Ok st) ds = Fits b st ds
FitsAfter b (Err r) ds = Unit {0}

fits-pick : (b : ℕ) (t : Bool) (a z : State) (ds : List ℕ) → (t ≡ true → Fits b a ds) → (t ≡ false → Fits b z ds) → Fits b (pick t a z) ds
unfolding pick
fits-pick b true a z ds p q = p refl
fits-pick b false a z ds p q = q refl

low-set : (ds : List ℕ) (f x : ℕ) → Low ds → x ≤ most_settings → Low (set ds f x)
low-set [] f x l h k = l k
low-set (d ∷ ds) zero x l h zero = h
low-set (d ∷ ds) zero x l h (suc k) = l (suc k)
low-set (d ∷ ds) (suc f) x l h zero = l 0
low-set (d ∷ ds) (suc f) x l h (suc k) = low-set ds f x (λ i. l (suc i)) h k

up-to : (m x : ℕ) → up_to m x ≡ true → (1 ≤ x) × (x ≤ m)
up-to m x t = (leb-true 1 x (and_l (leb 1 x) (leb x m) t), leb-true x m (and_r (leb 1 x) (leb x m) t))

pub low-none : (n : ℕ) → Low (replicate n 0)
low-none zero k = omega arith
low-none (suc n) zero = omega arith
low-none (suc n) (suc k) = low-none n k

-- ---- a number leaves one less

fits-after-field : (b n f : ℕ) (ds : List ℕ) → 25 * (n - (f + 1)) + 2 + rules_most ≤ b → Low ds → Fits b (after_field n f) ds
fits-after-field b n f ds h l =
    fits-pick b (ltb (f + 1) n) (Wants n (Count (f + 1))) (Wants n Reach) ds (λ t. (h, ltb-true (f + 1) n t, l)) (λ t. (omega arith, tt, l))

fits-after-rule : (b n rules floor : ℕ) (ds : List ℕ) → 27 * rules + triples_most ≤ b → Low ds
    → Fits b (after_rule n rules floor) ds
fits-after-rule b n rules floor ds h l =
    fits-pick b (eqb rules 0) (Wants n Triples) (Wants n (First (rules - 1) floor)) ds (λ t. (omega arith, tt, l))
    (λ t. (omega (arith, eqb-false rules 0 t), tt, l))

fits-after-triple : (b n triples floor : ℕ) (ds : List ℕ) → 4 * triples ≤ b → Low ds → Fits b (after_triple n triples floor) ds
fits-after-triple b n triples floor ds h l =
    fits-pick b (eqb triples 0) Complete (Wants n (TripleFirst (triples - 1) floor)) ds (λ t. tt)
    (λ t. (omega (arith, eqb-false triples 0 t), tt, l))

-- the range and the order
fits-ranged : (b : ℕ) (t : Bool) (a : Result State Refusal) (ds : List ℕ) → (t ≡ true → FitsAfter b a ds) → FitsAfter b (ranged t a) ds
unfolding pick
fits-ranged b true a ds p = p refl
fits-ranged b false a ds p = tt

fits-ordered : (b : ℕ) (t : Bool) (a : Result State Refusal) (ds : List ℕ) → (t ≡ true → FitsAfter b a ds) → FitsAfter b (ordered t a) ds
unfolding pick
fits-ordered b true a ds p = p refl
fits-ordered b false a ds p = tt

pub fits-advance : (b n : ℕ) (e : Expected) (ds : List ℕ) (x : ℕ) → Fits (suc b) (Wants n e) ds
    → FitsAfter b (advance n e ds x).0 (advance n e ds x).1
unfolding advance
fits-advance b n Fields ds x h = fits-ranged b _ _ ds (λ t. let u = up-to most_fields x t in (omega arith, omega arith, h.2))
fits-advance b n (Count f) ds x h =
    fits-ranged b _ _ _ (λ t. let u = up-to most_settings x t in let p = h.1 in (omega arith, p, low-set ds f x h.2 u.1))
fits-advance b n (Setting f rest floor) ds x h =
    fits-ranged b _ _ ds (λ _. fits-ordered b _ _ ds (λ _.
    fits-pick b (eqb rest 0) (after_field n f) (Wants n (Setting f (rest - 1) (x + 1))) ds
    (λ t. fits-after-field b n f ds (omega arith) h.2)
    (λ t. (omega (arith, eqb-false rest 0 t), h.1, h.2))))
fits-advance b n Reach ds x h = fits-ranged b _ _ ds (λ _. (omega arith, tt, h.2))
fits-advance b n Rules ds x h = fits-ranged b _ _ ds (λ t. fits-after-rule b n x 0 ds (omega (arith, leb-true x 276 t)) h.2)
fits-advance b n (First rules floor) ds x h = fits-ranged b _ _ ds (λ _. (omega arith, tt, h.2))
fits-advance b n (Second rules floor i) ds x h = fits-ranged b _ _ ds (λ _. fits-ordered b _ _ ds (λ _. (omega arith, tt, h.2)))
fits-advance b n (Kind rules i j) ds x h =
    fits-ranged b _ _ ds (λ _.
    fits-pick b (eqb x 0) (Wants n (Mask rules (key i j + 1) j (get_or ds i 0 - 1))) (Wants n (Amount rules (key i j + 1))) ds
    (λ _. (omega (arith, h.2 i), tt, h.2))
    (λ _. (omega arith, tt, h.2)))
fits-advance b n (Mask rules floor j rest) ds x h =
    fits-ranged b _ _ ds (λ _.
    fits-pick b (eqb rest 0) (after_rule n rules floor) (Wants n (Mask rules floor j (rest - 1))) ds
    (λ _. fits-after-rule b n rules floor ds (omega arith) h.2)
    (λ t. (omega (arith, eqb-false rest 0 t), tt, h.2)))
fits-advance b n (Amount rules floor) ds x h = fits-ranged b _ _ ds (λ _. fits-after-rule b n rules floor ds (omega arith) h.2)
fits-advance b n Triples ds x h =
    fits-ranged b _ _ ds (λ t. let u = up-to most_triples x t in fits-after-triple b n x 0 ds (omega arith) h.2)
fits-advance b n (TripleFirst triples floor) ds x h = fits-ranged b _ _ ds (λ _. (omega arith, tt, h.2))
fits-advance b n (TripleSecond triples floor i) ds x h = fits-ranged b _ _ ds (λ _. fits-ordered b _ _ ds (λ _. (omega arith, tt, h.2)))
fits-advance b n (TripleThird triples floor i j) ds x h = fits-ranged b _ _ ds (λ _. fits-ordered b _ _ ds (λ _. (omega arith, tt, h.2)))
fits-advance b n (TripleAmount triples floor) ds x h =
    fits-ranged b _ _ ds (λ _. fits-after-triple b n triples floor ds (omega arith) h.2)

-- at least the expected one
pub some : (n : ℕ) (e : Expected) → 0 < most n e
some n Fields = omega arith
some n (Count f) = omega arith
some n (Setting f rest floor) = omega arith
some n Reach = omega arith
some n Rules = omega arith
some n (First rules floor) = omega arith
some n (Second rules floor i) = omega arith
some n (Kind rules i j) = omega arith
some n (Mask rules floor j rest) = omega arith
some n (Amount rules floor) = omega arith
some n Triples = omega arith
some n (TripleFirst triples floor) = omega arith
some n (TripleSecond triples floor i) = omega arith
some n (TripleThird triples floor i j) = omega arith
some n (TripleAmount triples floor) = omega arith
