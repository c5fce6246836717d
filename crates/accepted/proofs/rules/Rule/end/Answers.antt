use mathlib.Core.Path.{◌≡◌, sym, ◌∙◌}
use Prim.Native.Nat.{ℕ, ◌+◌}
use mathlib.Core.List.{List}
use native.Mathlib.Omega.{arith}
use Rattle.accepted.specs.Parts.{RuleAt, kind_of, count_of, first_of, rule_start, after-masks, after-number}
use Rattle.accepted.specs.Facts.{facts}
use Rattle.accepted.proofs.rules.Rule.end.Goals as goal

module _ (xs : List ℕ) (r place : ℕ) (g : RuleAt xs r place) where
  -- a rule with masks, and one with a number
  masks : (d : ℕ) → kind_of xs r ≡ 0 → d ≡ count_of xs (first_of xs r) → place + 3 + d ≡ rule_start xs (r + 1)
  masks d z e = omega (arith, after-masks xs r z, g.at, e)

  one : (kind_of xs r ≡ 0 → ⊥) → place + 4 ≡ rule_start xs (r + 1)
  one z = omega (arith, after-number xs r z, g.at)

pub field-first-requires : goal.field-first-requires
field-first-requires c =
    let g = c.args.self.at in
    let f = facts _ g.accepted in
    let p = f.apart _ g.within in
    let q = f.within _ g.within in
    omega (arith, c.first.ensures)

pub returns-then-kind-eq0 : goal.returns-then-kind-eq0
returns-then-kind-eq0 c =
    let d = rw (c.field-first.ensures.0, c.field-first.ensures.1, c.first.ensures) at c.count.ensures in
    masks _ _ _ c.args.self.at c.count.result (sym c.kind.ensures ∙ c.if-kind-eq0.true) d

pub returns : goal.returns
returns c = one _ _ _ c.args.self.at (λ z. c.if-kind-eq0.false (c.kind.ensures ∙ z))
