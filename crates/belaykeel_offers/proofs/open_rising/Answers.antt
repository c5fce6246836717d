use Rattle.std.proofs.Common.{sym, rules}
use Prim.Native.Nat.{ℕ}
use lib.ListN.{length-replicate}
use Rattle.std.specs.Prelude.{◌≡◌, Err}
use Rattle.limits.specs.Limits.{rows_words, memory_words}
use lib.Seq.{length-take-le}
use Rattle.belaykeel_offers.specs.Opening.{opening-is}
use Rattle.belaykeel_offers.proofs.open_rising.Goals as goal

pub slice_bounds-open-end : goal.slice_bounds-open-end
slice_bounds-open-end c = sym (length-take-le _ _ c.requires)

pub returns-in_err-open : goal.returns-in_err-open
returns-in_err-open c =
    let a = c.args in
    let q : c.from_residual.result ≡ Err c.in_err-open.field-0.0 = search rules in
    rw q (opening-is a.sheet.now a.n _ _ _ _ _ _ c.first_positions.ensures c.fresh.ensures
    (length-replicate {A = ℕ} rows_words 0) (length-replicate {A = ℕ} memory_words 0) c.in_err-open.ensures)

pub returns : goal.returns
returns c =
    let a = c.args in
    opening-is a.sheet.now a.n _ _ _ _ _ _ c.first_positions.ensures c.fresh.ensures
    (length-replicate {A = ℕ} rows_words 0) (length-replicate {A = ℕ} memory_words 0) c.in_ok-open.ensures
