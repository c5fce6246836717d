-- The triples of an accepted list: what it has after its rules. Assumes nothing.
use Rattle.std.specs.Prelude.{◌≡◌, refl, true, List, [], ◌∷◌, ℕ, zero, suc, ◌+◌, ◌-◌, ◌<◌, ◌≤◌, ltb, leb, eqb, length, Ok}
use Rattle.std.proofs.Common.{ap, ap₂, sym, ◌∙◌, ⊎_elim, arith, leb-true, ltb-true, eqb-true}
use Rattle.std.proofs.lemmas.Bool.{eqb-false}
use Rattle.limits.specs.Limits.{largest_setting, most_triples}
use Rattle.grammar.specs.Grammar.{advance, after_triple, triple_key, rising_triple}
use Rattle.sheet.specs.Sources.{refusal_from, of_numbers}
use Rattle.accepted.specs.Sheets.{Triple, triples_numbers, triples_part, TripleRight, key_of_triple, Tripled, tripled-none, tripled-one}
use Rattle.accepted.specs.Accept.{ranged_in, ordered_in, pick_in, both, up_to-le}
use Rattle.grammar.specs.declared.grammar.Expected.TheVariants.{Triples, TripleFirst}
use Rattle.grammar.specs.declared.grammar.State.TheVariants.{Wants, Complete}

record TripleIn (left floor n : ℕ) (ds ys : List ℕ) : Type 0 where
  triple : Triple
  rest : List ℕ
  split : ys ≡ triple.i ∷ triple.j ∷ triple.k ∷ triple.c ∷ rest
  rise : floor ≤ key_of_triple triple
  right : TripleRight n triple
  on : refusal_from (after_triple n left (key_of_triple triple + 1)) ds (of_numbers rest) ≡ 0

rising_le : (i j k floor : ℕ) → rising_triple i j k floor ≡ true → (j < k) × (floor ≤ triple_key i j k)
rising_le i j k floor e =
    let b = both (ltb j k) (leb floor (triple_key i j k)) e in (ltb-true j k b.0, leb-true floor (triple_key i j k) b.1)

triple-in : (ys : List ℕ) (left floor n : ℕ) (ds : List ℕ) → refusal_from (Wants n (TripleFirst left floor)) ds (of_numbers ys) ≡ 0
    → TripleIn left floor n ds ys
unfolding refusal_from advance
triple-in [] left floor n ds e = absurd (omega arith)
triple-in (i ∷ []) left floor n ds e = let r = (ranged_in (ltb i n) _ ds [] e).1 in absurd (omega arith)
triple-in (i ∷ j ∷ []) left floor n ds e =
    let r = ranged_in (ltb i n) _ ds (of_numbers (j ∷ [])) e in
    let q = ranged_in (ltb j n) _ ds [] r.1 in
    let o = (ordered_in (ltb i j) _ ds [] q.1).1 in
    absurd (omega arith)
triple-in (i ∷ j ∷ k ∷ []) left floor n ds e =
    let r = ranged_in (ltb i n) _ ds (of_numbers (j ∷ k ∷ [])) e in
    let q = ranged_in (ltb j n) _ ds (of_numbers (k ∷ [])) r.1 in
    let o = ordered_in (ltb i j) _ ds (of_numbers (k ∷ [])) q.1 in
    let s = ranged_in (ltb k n) _ ds [] o.1 in
    let p = (ordered_in (rising_triple i j k floor) _ ds [] s.1).1 in
    absurd (omega arith)
triple-in (i ∷ j ∷ k ∷ c ∷ ys) left floor n ds e =
    let r = ranged_in (ltb i n) _ ds (of_numbers (j ∷ k ∷ c ∷ ys)) e in
    let q = ranged_in (ltb j n) _ ds (of_numbers (k ∷ c ∷ ys)) r.1 in
    let o = ordered_in (ltb i j) _ ds (of_numbers (k ∷ c ∷ ys)) q.1 in
    let s = ranged_in (ltb k n) _ ds (of_numbers (c ∷ ys)) o.1 in
    let p = ordered_in (rising_triple i j k floor) _ ds (of_numbers (c ∷ ys)) s.1 in
    let m = ranged_in (leb c largest_setting) _ ds (of_numbers ys) p.1 in
    let b = rising_le i j k floor p.0 in
    record {
      triple = record { i = i; j = j; k = k; c = c };
      rest = ys;
      split = refl;
      rise = b.1;
      right = record {
        apart = ltb-true i j o.0;
        above = b.0;
        within = ltb-true k n s.0;
        amount_le = leb-true c largest_setting m.0;
      };
      on = m.1;
    }

record TriplesIn (left floor n : ℕ) (ys : List ℕ) : Type 0 where
  triples : List Triple
  split : ys ≡ triples_numbers triples
  size : length triples ≡ left
  tripled : Tripled n floor triples

-- nothing follows the last triple
end_in : (ys ds : List ℕ) → refusal_from Complete ds (of_numbers ys) ≡ 0 → ys ≡ []
unfolding refusal_from advance
end_in [] ds e = refl
end_in (x ∷ ys) ds e = absurd (omega arith)

triples_in : (left floor n : ℕ) (ds ys : List ℕ) → refusal_from (after_triple n left floor) ds (of_numbers ys) ≡ 0
    → TriplesIn left floor n ys
unfolding triples_numbers
triples_in zero floor n ds ys e =
    ⊎_elim (λ r. record { triples = []; split = end_in ys ds r.1; size = refl; tripled = tripled-none })
    (λ r. absurd (eqb-false 0 0 r.0 refl))
    (pick_in (eqb 0 0) Complete (Wants n (TripleFirst (0 - 1) floor)) ds (of_numbers ys) e)
triples_in (suc left) floor n ds ys e =
    ⊎_elim (λ r. absurd (omega (arith, eqb-true (suc left) 0 r.0)))
    (λ r.
    let l : left ≡ suc left - 1 = omega arith in
    let t = triple-in ys left floor n ds (ap (λ (k : ℕ). refusal_from (Wants n (TripleFirst k floor)) ds (of_numbers ys)) l ∙ r.1) in
    let u = triples_in left (key_of_triple t.triple + 1) n ds t.rest t.on in
    record {
      triples = t.triple ∷ u.triples;
      split = t.split ∙ ap (λ (y : List ℕ). t.triple.i ∷ t.triple.j ∷ t.triple.k ∷ t.triple.c ∷ y) u.split;
      size = ap suc u.size;
      tripled = tripled-one t.rise t.right u.tripled;
    })
    (pick_in (eqb (suc left) 0) Complete (Wants n (TripleFirst (suc left - 1) floor)) ds (of_numbers ys) e)

-- What follows the rules: nothing, or triples.
pub record PartIn (n : ℕ) (ys : List ℕ) : Type 0 where
  pub triples : List Triple
  pub split : ys ≡ triples_part triples
  pub few : length triples ≤ most_triples
  pub tripled : Tripled n 0 triples

part_of : (x n : ℕ) (ys : List ℕ) → 1 ≤ x → x ≤ most_triples → TriplesIn x 0 n ys → PartIn n (x ∷ ys)
unfolding triples_part
part_of x n ys p q t = go t.triples t.split t.size t.tripled
  where
    go : (ts : List Triple) → ys ≡ triples_numbers ts → length ts ≡ x → Tripled n 0 ts → PartIn n (x ∷ ys)
    go [] e s r = absurd (omega (arith, s))
    go (u ∷ ts) e s r = record { triples = u ∷ ts; split = ap₂ ◌∷◌ (sym s) e; few = omega (arith, s); tripled = r }

pub part_in : (n : ℕ) (ds ys : List ℕ) → refusal_from (Wants n Triples) ds (of_numbers ys) ≡ 0 → PartIn n ys
unfolding refusal_from advance triples_part
part_in n ds [] e = record { triples = []; split = refl; few = omega arith; tripled = tripled-none }
part_in n ds (x ∷ ys) e =
    let r = ranged_in _ (Ok (after_triple n x 0)) ds (of_numbers ys) e in
    let b = up_to-le most_triples x r.0 in
    part_of x n ys b.0 b.1 (triples_in x 0 n ds ys r.1)
