use Rattle.network.specs.Turned.{square_columns}
use Rattle.network.proofs.turn.turn.Goals as goal

pub returns-then-wide-le8 : goal.returns-then-wide-le8
returns-then-wide-le8 c =
    square_columns _ _ _ _ _ c.if-n-le8.true c.if-wide-le8.true c.requires c.turn_square.ensures

pub returns : goal.returns
returns c =
    square_columns _ _ _ _ _ c.requires.few c.requires.narrow c.requires
    c.turn_square-2.ensures
