use mathlib.Core.Path.{sym}
use lib.Seq.{length-take-le}
use Rattle.std.proofs.lemmas.Result.{err_from_is_err_and}
use Rattle.answering.specs.Intake.{taken_refused, taken-ends, taken-read, front-accepted}
use Rattle.answering.proofs.intake.take_in.Goals as goal

pub returns-in_err-length : goal.returns-in_err-length
returns-in_err-length c =
    let p = err_from_is_err_and c.from_residual.result c.from_residual.ensures.1 in
    rw (p.1, p.2) (taken_refused c.args.sheet.now c.args.memory.now c.requires _ c.in_err-length.field-0.0 c.in_err-length.ensures)

pub slice_bounds-outline_of-end : goal.slice_bounds-outline_of-end
slice_bounds-outline_of-end c = taken-ends c.args.sheet.now c.args.memory.now c.requires _ _ c.in_ok-length.ensures

pub slice_bounds-outline_of-end-2 : goal.slice_bounds-outline_of-end-2
slice_bounds-outline_of-end-2 c =
    sym (length-take-le _ _ (taken-ends c.args.sheet.now c.args.memory.now c.requires _ _ c.in_ok-length.ensures))

pub outline_of-outline-requires : goal.outline_of-outline-requires
outline_of-outline-requires c = front-accepted c.args.sheet.now c.args.memory.now c.requires _ _ c.in_ok-length.ensures

pub returns : goal.returns
returns c =
    taken-read c.args.sheet.now c.args.memory.now c.requires _ _ c.in_ok-length.ensures _ c.outline_of-outline.ensures
