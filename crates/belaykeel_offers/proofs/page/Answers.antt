use mathlib.Core.Path.{sym, ap, ◌∙◌}
use native.Mathlib.Omega.{arith}
use Prim.Native.Nat.{ℕ}
use Rattle.std.specs.Prelude.{[]}
use Rattle.printing.specs.Text.{text}
use Rattle.belaykeel_offers.specs.Page.{page-opened, page-by, front-is}
use Rattle.belaykeel_offers.proofs.page.Goals as goal

pub returns-in-Ok : goal.returns-in-Ok
returns-in-Ok c =
    let t = c.text.ensures in (
      front-is c.args.output.now _ _ _ t.0 t.1 (omega (arith, t.2, c.requires))
          ∙ page-opened c.args.sheet.now _ _ c.in-Ok.count c.in-Ok.ensures,
      t.2,
    )

pub returns-in-Err : goal.returns-in-Err
returns-in-Err c =
    let t = c.text-in-Err.ensures in (
      front-is c.args.output.now _ _ _ t.0 t.1 (omega (arith, t.2, c.requires))
          ∙ ap (λ (k : ℕ). text [] k c.opened.new.offers) c.number.ensures
          ∙ page-by c.args.sheet.now _ _ c.in-Err.refusal c.in-Err.ensures,
      t.2,
    )
