-- What pairs a rule allows, by its kind, and what settings a triple allows. Assumes nothing.
use Rattle.std.specs.Prelude.{Bool, false, ℕ, ◌+◌, ◌-◌, ◌*◌, leb, eqb}
use Rattle.limits.specs.Limits.{encoder_tolerance}
use Rattle.masks.specs.Bits.{bit}
use Rattle.masks.specs.Pick.{pick}

-- how far p and q are apart: one of the two differences is 0
abbrev pub distance : ℕ → ℕ → ℕ
distance p q = p - q + (q - p)

-- With p the setting of i and q, at position b, that of j; c is the rule's number, and for kind 0 the mask of p's position. Kind 5 is that
-- of 02, request 6: the distance differs from c by at most the tolerance.
abbrev pub allows : (kind c p q b : ℕ) → Bool
allows kind c p q b =
    pick (eqb kind 0) (bit c b)
    (pick (eqb kind 1) (leb (q + c) p)
    (pick (eqb kind 2) (leb (p + c) q)
    (pick (eqb kind 3) (leb c (distance p q))
    (pick (eqb kind 4) (leb (distance p q) c)
    (pick (eqb kind 5) (leb (distance (distance p q) c) encoder_tolerance)
    false)))))

-- With p, q and r the settings of a triple's fields i, j and k, and c its number: p + r and 2 * q differ by at most c (02, request 12).
abbrev pub even_draft : (c p q r : ℕ) → Bool
even_draft c p q r = leb (distance (p + r) (2 * q)) c
