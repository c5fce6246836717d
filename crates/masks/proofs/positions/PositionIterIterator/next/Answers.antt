use Rattle.masks.proofs.Words.{clear-lt}
use Rattle.masks.proofs.positions.PositionIterIterator.next.Goals as goal

pub returns-clause-goes : goal.returns-clause-goes
returns-clause-goes c =
    let less = clear-lt _ _ c.lowest_bit-v.ensures.0.set in
    record { on = λ _. (tt, tt, rw c.clear_bit-self.ensures less); keeps = tt; rests = λ _. tt }
