-- The support sets as words, and one of them by value. Assumes nothing.
use Rattle.std.specs.Prelude.{◌≡◌, List, ℕ, ◌+◌, ◌*◌, ◌<◌, length, get_or}
use Rattle.std.proofs.Common.{ap}
use Rattle.limits.specs.Limits.{most_fields}
use Rattle.masks.specs.Bits.{bit}
use Rattle.masks.specs.Sets.{has}
use Rattle.removal_list.specs.Moved.{number_of}
use Rattle.pruning.specs.Supports.{supports}

-- where the mask of field i in the support set of (j, b) is
abbrev pub word_of : ℕ → ℕ → ℕ → ℕ
word_of j b i = number_of j b * most_fields + i

-- the first k masks of r are those of the support set with number x
pub record SetOf (S : List ℕ) (x k : ℕ) (r : List ℕ) : Type 0 where
  pub long : length r ≡ most_fields
  pub each : (i : ℕ) → i < k → get_or r i 0 ≡ get_or S (x * most_fields + i) 0

pub set-has : (S : List ℕ) (j b : ℕ) (r : List ℕ) → SetOf S (number_of j b) most_fields r → (i a : ℕ) → i < most_fields
    → has r i a ≡ supports S j b i a
unfolding has supports
set-has S j b r p i a h = ap (λ (x : ℕ). bit x a) (p.each i h)
