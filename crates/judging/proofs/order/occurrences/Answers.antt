use Rattle.std.specs.Prelude.{◌≡◌, count_by, eqb}
use Rattle.std.proofs.Common.{rules, ◌∙◌}
use Rattle.judging.proofs.Counts.{occurrences_counted}
use Rattle.judging.proofs.order.occurrences.Goals as goal

pub returns : goal.returns
returns c =
    let a = c.args in
    let e : c.count.result ≡ count_by (λ g. eqb g a.f) a.order.now = search rules in
    e ∙ occurrences_counted a.f a.order.now
