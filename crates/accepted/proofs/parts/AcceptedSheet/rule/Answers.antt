use Rattle.accepted.specs.Parts.{RuleAt}
use Rattle.accepted.specs.Facts.{rule-ends-at}
use Rattle.accepted.proofs.parts.AcceptedSheet.rule.Goals as goal

pub invariant_of-result : goal.invariant_of-result
invariant_of-result c =
    let g : RuleAt c.args.self.numbers.now c.args.r c.args.place =
    record { accepted = c.args.self.accepted; within = c.requires.0; at = c.requires.1 } in
    record { at = g; room = rule-ends-at _ _ _ g }
