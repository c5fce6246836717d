use native.Mathlib.Omega.{arith}
use Rattle.accepted.specs.Facts.{facts}
use Rattle.accepted.proofs.parts.AcceptedSheet.fields.Goals as goal

pub bounds-self-0 : goal.bounds-self-0
bounds-self-0 c = let f = facts _ c.args.self.accepted in omega (arith, f.field_end 0 f.fields-some)
