-- `raise_word` stores the five words of the sum.
use mathlib.Core.Path.{refl}
use native.Mathlib.Omega.{arith}
use Rattle.counter.specs.Digits.{five-stored, raised_word}
use Rattle.counter.proofs.raise_word.Goals as goal

pub returns : goal.returns
returns c =
    raised_word _ _ _ _ _ _ _ _ _ _ _ _ _ (five-stored _ _ _ _ _ _ _ _ _ _ _ _ (omega arith) refl refl refl refl refl)
    refl refl refl refl refl refl refl refl refl
