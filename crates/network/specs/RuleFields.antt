-- What the functions that fill the tables ask of a rule, and what its rows are. Assumes nothing.
use Rattle.std.specs.Prelude.{◌≡◌, Bool, List, ℕ, ◌≤◌, ◌<◌}
use Rattle.std.proofs.Common.{sym, arith, lt-ltb, le-ltb}
use Rattle.limits.specs.Limits.{most_fields, most_settings}
use Rattle.masks.specs.Masks.{mask_of}
use Rattle.accepted.specs.Parts.{fields_of, count_of, first_of, second_of, kind_of, number_of, setting_of, rule_allows}
use Rattle.accepted.specs.Parts.{RuleAt}
use Rattle.accepted.specs.Kinds.{allows}
use Rattle.accepted.specs.Facts.{Facts, facts}
use Rattle.masks.proofs.Loops.{mask-false}
use Rattle.network.specs.Built.{row_of}

-- rule r at its place, and its fields i and j
pub record RuleFields (xs : List ℕ) (r place i j : ℕ) : Type 0 where
  pub rule : RuleAt xs r place
  pub first : i ≡ first_of xs r
  pub second : j ≡ second_of xs r

module _ (xs : List ℕ) (r place i j : ℕ) (g : RuleFields xs r place i j) where
  fs : Facts xs
  fs = facts xs g.rule.accepted

  -- the fields of a rule are two fields of the sheet, the lower one first
  pub fields-low : (i < j) × (j < most_fields) × (i < fields_of xs) × (j < fields_of xs)
  fields-low =
      let e = g.first in
      let d = g.second in
      let l = fs.apart r g.rule.within in
      let m = fs.within r g.rule.within in
      let n = fs.fields-few in
      (omega arith, omega arith, omega arith, omega arith)

  -- the counts are small
  pub counts-few : (count_of xs i ≤ most_settings) × (count_of xs j ≤ most_settings)
  counts-few = (fs.count-few i fields-low.2, fs.count-few j fields-low.3)

  -- a row past the settings of its field
  pub row-past : (v : ℕ) → count_of xs i ≤ v → 0 ≡ row_of xs r v
  row-past v h = sym (mask-false _ _ (λ u. rw (le-ltb v (count_of xs (first_of xs r)) (rw g.first at h))))

  -- a row of a setting: what the rule allows beside it
  pub row_is : (v : ℕ) → v < count_of xs i → mask_of (count_of xs j) (λ u. rule_allows xs r v u) ≡ row_of xs r v
  row_is v h = rw (g.second, lt-ltb v (count_of xs (first_of xs r)) (rw g.first at h))

  -- what code finds of a pair is what the rule allows
  pub allows-is : (v u kind c p q : ℕ) (t : Bool) → kind ≡ kind_of xs r → c ≡ number_of xs r v → p ≡ setting_of xs i v
      → q ≡ setting_of xs j u
      → t ≡ allows kind c p q u
      → rule_allows xs r v u ≡ t
  allows-is v u kind c p q t a b d e h = sym (rw (a, b, d, e, g.first, g.second) at h)
