use mathlib.Core.Path.{ap, ◌∙◌, sym}
use Prim.Native.Nat.{ℕ, ◌+◌}
use native.Mathlib.Omega.{arith}
use Rattle.accepted.specs.Parts.{rule-first}
use Rattle.accepted.specs.Facts.{facts}
use Rattle.accepted.proofs.parts.AcceptedSheet.rules_start.Goals as goal

pub overflow_add-result : goal.overflow_add-result
overflow_add-result c = omega (arith, c.fields_end.ensures, (facts _ c.args.self.accepted).tail_end)

pub returns : goal.returns
returns c = ap (λ (i : ℕ). i + 2) c.fields_end.ensures ∙ sym (rule-first _)
