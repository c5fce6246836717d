use mathlib.Core.Path.{◌≡◌}
use native.Mathlib.Omega.{arith}
use borrow.Author.Rules.{rules}
use Rattle.network.specs.Hoods.{hood-start, hood-turn, hood-near, hood-whole}
use Rattle.network.proofs.hoods.neighbourhood.Goals as goal

pub returns-then-reach-ge-WHOLE_REACH : goal.returns-then-reach-ge-WHOLE_REACH
returns-then-reach-ge-WHOLE_REACH c = hood-whole _ _ _ _ _ c.if-reach-ge-WHOLE_REACH.true c.first_positions.ensures

pub loop-init : goal.loop-init
loop-init c = hood-start _ _ _ _ c.requires.0 c.requires.2 c.requires.1 c.one_bit-m.ensures

pub loop-preserved : goal.loop-preserved
loop-preserved c = hood-turn _ _ _ _ _ _ c.requires.0 c.requires.2 c.widen-m.ensures c.loop.invariant

pub returns : goal.returns
returns c =
    let e : c.loop.counter ≡ c.args.reach = omega arith in
    hood-near _ _ _ _ _ (search rules) (rw e at c.loop.invariant)
