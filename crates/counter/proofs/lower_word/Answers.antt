-- `lower_word` stores the five words of the difference.
use mathlib.Core.Path.{refl}
use native.Mathlib.Omega.{arith}
use Rattle.counter.specs.Digits.{five-stored, lowered-word}
use Rattle.counter.proofs.lower_word.Goals as goal

pub returns : goal.returns
returns c =
    lowered-word _ _ _ _ _ _ _ _ _ _ _ _ _ (five-stored _ _ _ _ _ _ _ _ _ _ _ _ (omega arith) refl refl refl refl refl)
    refl refl refl refl refl refl refl refl refl
