-- `counted_word` has the positions with some digit.
use mathlib.Core.Path.{refl}
use Rattle.counter.specs.Digits.{counted_word}
use Rattle.counter.proofs.counted_word.Goals as goal

pub returns : goal.returns
unfolding counted_word
returns c = refl
