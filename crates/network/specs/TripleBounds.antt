-- How many triple rules a sheet has, and their fields. Assumes nothing.
use Rattle.std.specs.Prelude.{◌≡◌, List, ℕ, ◌≤◌, ◌<◌}
use Rattle.std.proofs.Common.{arith}
use Rattle.limits.specs.Limits.{most_fields, most_triples}
use Rattle.sheet.specs.Sources.{Accepted}
use Rattle.accepted.specs.Parts.{triples_of, triple_first, triple_second, triple_third, TripleAt}
use Rattle.accepted.specs.Facts.{facts}

pub few-triples : (xs : List ℕ) (count : ℕ) → Accepted xs → count ≡ triples_of xs → count ≤ most_triples
few-triples xs count a e = rw e (facts xs a).triples-few

pub triple-low : (xs : List ℕ) (t place : ℕ) → TripleAt xs t place → t < most_triples
triple-low xs t place g = let l = g.within in let k = (facts xs g.accepted).triples-few in omega arith

-- the fields of a triple rule have masks among those of all fields
pub triple-fields : (xs : List ℕ) (t place i j k : ℕ) → TripleAt xs t place
    → i ≡ triple_first xs t → j ≡ triple_second xs t → k ≡ triple_third xs t → (i < most_fields) × (j < most_fields) × (k < most_fields)
triple-fields xs t place i j k g p q r =
    let fs = facts xs g.accepted in
    let x = fs.triple-apart t g.within in
    let y = fs.triple-above t g.within in
    let z = fs.triple-within t g.within in
    let n = fs.fields-few in
    (omega arith, omega arith, omega arith)
