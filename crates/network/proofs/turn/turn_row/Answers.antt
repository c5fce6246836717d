use mathlib.Core.Path.{◌≡◌}
use native.Mathlib.Omega.{arith}
use borrow.Author.Rules.{rules}
use lib.ListN.{length}
use Rattle.limits.specs.Limits.{most_settings}
use Rattle.network.specs.Turned.{turning_start, turning_next}
use Rattle.network.proofs.turn.turn_row.Goals as goal

pub loop-u-init : goal.loop-u-init
loop-u-init c = turning_start _ _ _

pub loop-u-preserved : goal.loop-u-preserved
loop-u-preserved c =
    let long : length c.args.turned.now ≡ most_settings = search rules in
    let z = c.loop-u.invariant.sized in
    let x = c.requires.1 in
    rw (c.flood.ensures, c.one_bit-own.ensures)
    (turning_next _ _ _ _ _ (let v = c.requires.0 in omega arith) (omega arith) c.loop-u.invariant)
