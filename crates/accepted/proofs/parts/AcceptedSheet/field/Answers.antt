use Rattle.accepted.specs.Facts.{facts}
use Rattle.accepted.proofs.parts.AcceptedSheet.field.Goals as goal

pub invariant_of-result : goal.invariant_of-result
invariant_of-result c =
    let s = c.args.self in
    record {
      at = record { field = record { accepted = s.accepted; within = c.requires }; at = c.field_start.ensures };
      room = rw c.field_start.ensures ((facts _ s.accepted).field_end c.args.f c.requires);
    }
