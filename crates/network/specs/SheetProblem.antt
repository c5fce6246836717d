-- The problem that a sheet is. Assumes nothing.
use Rattle.std.specs.Prelude.{◌≡◌, refl, Bool, true, false, ◌&&◌, ◌||◌, List, ℕ, ◌<◌, eqb, ltb}
use Rattle.std.proofs.Common.{ap, arith, eqb-true}
use Rattle.std.proofs.Math.Path.{fun_ext}
use Rattle.masks.specs.Tests.{some_below, and_l, and_r}
use Rattle.consistency.specs.Problem.{Triple, list_triples, length-triples, listed-triple, Problem, Symmetric, TriplesIn}
use Rattle.consistency.specs.Revising.{rules_only}
use Rattle.sheet.specs.Sources.{Accepted}
use Rattle.accepted.specs.Parts.{fields_of, count_of, rules_of, first_of, second_of, rule_allows, triples_of, triple_first, triple_second}
use Rattle.accepted.specs.Parts.{triple_third}
use Rattle.accepted.specs.Parts.{triple_allows}
use Rattle.accepted.specs.Outline.{outline_of}
use Rattle.accepted.specs.Facts.{facts}

-- rule r runs from f to g: f is its first field and g its second
unfoldable pub runs : List ℕ → ℕ → ℕ → ℕ → Bool
runs xs f g r = eqb (first_of xs r) f && eqb (second_of xs r) g

pub runs-at : (xs : List ℕ) (f g r : ℕ) → runs xs f g r ≡ true → (first_of xs r ≡ f) × (second_of xs r ≡ g)
unfolding runs
runs-at xs f g r e = (eqb-true (first_of xs r) f (and_l _ _ e), eqb-true (second_of xs r) g (and_r (eqb (first_of xs r) f) _ e))

-- the positions v of f and u of g are on the sheet, and rule r allows them beside each other
unfoldable pub pairs : List ℕ → ℕ → ℕ → ℕ → ℕ → ℕ → Bool
pairs xs f g v u r = ltb v (count_of xs f) && (ltb u (count_of xs g) && rule_allows xs r v u)

-- rule r joins f and g, one way round or the other
abbrev pub joins : List ℕ → ℕ → ℕ → ℕ → Bool
joins xs f g r = runs xs f g r || runs xs g f r

-- rule r joins them and allows position v of f beside position u of g
abbrev pub allows_pair : List ℕ → ℕ → ℕ → ℕ → ℕ → ℕ → Bool
allows_pair xs f g v u r = runs xs f g r && pairs xs f g v u r || runs xs g f r && pairs xs g f u v r

-- Triple rule t of the sheet (02, request 12): its fields; positions p, q and r that are on the sheet and that it allows beside each other.
unfoldable pub sheet_triple : List ℕ → ℕ → Triple
sheet_triple xs t = record {
  first = triple_first xs t;
  second = triple_second xs t;
  third = triple_third xs t;
  fits = λ p q r. ltb p (count_of xs (triple_first xs t))
      && (ltb q (count_of xs (triple_second xs t)) && (ltb r (count_of xs (triple_third xs t)) && triple_allows xs t p q r));
}

-- The problem of a sheet: two fields are joined where a rule joins them; a pair is allowed where the rule that joins its fields allows it.
-- No pair of fields has two rules.
unfoldable pub sheet_problem : List ℕ → Problem
sheet_problem xs = record {
  fields = fields_of xs;
  joined = λ f g. some_below (rules_of xs) (joins xs f g);
  allowed = λ f g v u. some_below (rules_of xs) (allows_pair xs f g v u);
  sheet = (outline_of xs).full;
  triples = list_triples (triples_of xs) (sheet_triple xs);
}

or_comm : (a b : Bool) → (a || b) ≡ (b || a)
or_comm true true = refl
or_comm true false = refl
or_comm false true = refl
or_comm false false = refl

pub sheet-symmetric : (xs : List ℕ) → Symmetric (sheet_problem xs)
unfolding sheet_problem
sheet-symmetric xs = record {
  joins = λ f g. ap (some_below (rules_of xs)) (fun_ext (λ r. or_comm (runs xs f g r) (runs xs g f r)));
  allows = λ f g v u. ap (some_below (rules_of xs))
      (fun_ext (λ r. or_comm (runs xs f g r && pairs xs f g v u r) (runs xs g f r && pairs xs g f u v r)));
}

pub rules-symmetric : (xs : List ℕ) → Symmetric (rules_only (sheet_problem xs))
rules-symmetric xs = let s = sheet-symmetric xs in record { joins = s.joins; allows = s.allows }

-- the fields of its triple rules rise, and are fields of the sheet
pub sheet-triples : (xs : List ℕ) → Accepted xs → TriplesIn (sheet_problem xs)
unfolding sheet_problem sheet_triple
sheet-triples xs a t l =
    let fs = facts xs a in
    let n = length-triples (triples_of xs) (sheet_triple xs) in
    let h : t < triples_of xs = omega arith in
    rw (listed-triple (triples_of xs) (sheet_triple xs) t h)
    (record { lower = fs.triple-apart t h; upper = fs.triple-above t h; within = fs.triple-within t h })
