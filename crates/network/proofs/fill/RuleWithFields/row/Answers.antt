use mathlib.Core.Path.{◌≡◌, sym, ap, ◌∙◌}
use mathlib.Core.List.{List}
use Prim.Native.Nat.{ℕ, ◌<◌}
use native.Mathlib.Omega.{arith}
use borrow.Author.Rules.{rules}
use Rattle.masks.specs.Bits.{bit}
use Rattle.masks.proofs.Loops.{mask-by}
use Rattle.accepted.specs.Parts.{setting_of, rule_allows}
use Rattle.accepted.specs.Kinds.{allows}
use Rattle.network.specs.Drafts.{field-few}
use Rattle.network.specs.RuleFields.{row_is, allows-is}
use Rattle.network.specs.RuleRows.{row-mask}
use Rattle.network.proofs.fill.RuleWithFields.row.Goals as goal

pub returns-then-kind-eq0 : goal.returns-then-kind-eq0
returns-then-kind-eq0 c =
    c.row_of_mask.ensures
    ∙ row-mask _ _ _ _ _ c.args.self.fields _ _ (sym c.kind-kind.ensures ∙ c.if-kind-eq0.true) c.requires c.number-c.ensures

pub positions_where-requires-clause-few : goal.positions_where-requires-clause-few
positions_where-requires-clause-few c = omega (arith, field-few _ _ _ c.args.self.second.at, c.count.ensures)

pub positions_where-requires-clause-callable : goal.positions_where-requires-clause-callable
positions_where-requires-clause-callable c =
    let k = field-few _ _ _ c.args.self.second.at in
    let e = c.count.ensures in
    search rules

pub returns : goal.returns
returns c =
    let s = c.args.self in
    let n = rw s.second_list at c.count.ensures in
    let same : (u : ℕ) → u < c.count.result
    → bit c.positions_where.result u
    ≡ allows c.kind-kind.result c.number-c.result c.setting-p.result (setting_of s.second.numbers.now s.second.index u) u =
    λ u l. let e = c.positions_where.ensures.each u l in search rules in
    rw n at (mask-by _ _ (λ u. rule_allows s.rule.numbers.now s.rule.index c.args.v u) c.positions_where.ensures.below
    (λ u l. sym (allows-is _ _ _ _ _ s.fields _ _ _ _ _ _ _ c.kind-kind.ensures c.number-c.ensures (rw s.first_list at c.setting-p.ensures)
    (ap (λ (xs : List ℕ). setting_of xs s.second.index u) s.second_list) (same u l))))
    ∙ row_is _ _ _ _ _ s.fields _ c.requires
