use mathlib.Core.Path.{◌≡◌, sym, ap, ◌∙◌}
use Prim.Native.Nat.{ℕ, ◌+◌, ◌≤◌, ◌<◌}
use mathlib.Core.Bool.{false}
use lib.Dec.{leb, eqb}
use native.Mathlib.Omega.{arith}
use borrow.Author.Tests.{leb-true, le-leb, lt-leb, ne_eqb}
use Rattle.limits.specs.Limits.{encoder_tolerance}
use Rattle.masks.specs.Tests.{iff_eq}
use Rattle.masks.specs.Pick.{pick, pick-false}
use Rattle.accepted.specs.Kinds.{distance, allows}
use Rattle.accepted.proofs.kinds.allowed.Goals as goal

pub returns-in-0 : goal.returns-in-0
unfolding pick
returns-in-0 c = rw c.in-0.is c.has_position.ensures.is

pub returns-in-1 : goal.returns-in-1
unfolding pick
returns-in-1 c = rw c.in-1.is

pub returns-in-2 : goal.returns-in-2
unfolding pick
returns-in-2 c = rw c.in-2.is

pub returns-in-3 : goal.returns-in-3
unfolding pick
returns-in-3 c = rw c.in-3.is (ap (leb c.args.c) c.distance.ensures)

pub returns-in-4 : goal.returns-in-4
unfolding pick
returns-in-4 c = rw c.in-4.is (ap (λ (d : ℕ). leb d c.args.c) c.distance-in-4.ensures)

-- A number d that is not below c by more than t differs from c by at most t where it is not above c by more.
within : (d c t : ℕ) → c ≤ d + t → leb d (c + t) ≡ leb (distance d c) t
within d c t low =
    iff_eq _ _
    (λ above. le-leb (distance d c) t (omega (arith, leb-true d (c + t) above)))
    (λ near. le-leb d (c + t) (omega (arith, leb-true (distance d c) t near)))

pub returns-then-z-d : goal.returns-then-z-d
unfolding pick
returns-then-z-d c =
    let d = c.distance-d in
    let z = c.args.c in
    rw (c.in-5.is, sym d.ensures) (within d.result z encoder_tolerance (omega (arith, c.if-z-d.true)))

-- below c by more than the tolerance
pub returns-else-z-d : goal.returns-else-z-d
unfolding pick
returns-else-z-d c =
    let d = c.distance-d in
    let z = c.args.c in
    let far = lt-leb (distance d.result z) encoder_tolerance (omega (arith, c.if-z-d.false)) in
    rw (c.in-5.is, sym d.ensures) (lt-leb z _ (omega (arith, c.if-z-d.false)) ∙ sym far)

-- no kind of the table
none : (k c p q b : ℕ) → 5 < k → allows k c p q b ≡ false
none k c p q b h =
    let other : (i : ℕ) → i ≤ 5 → eqb k i ≡ false = λ i l. ne_eqb k i (λ e. omega arith) in
    pick-false _ _ _ (other 0 (omega arith))
    ∙ pick-false _ _ _ (other 1 (omega arith))
    ∙ pick-false _ _ _ (other 2 (omega arith))
    ∙ pick-false _ _ _ (other 3 (omega arith))
    ∙ pick-false _ _ _ (other 4 (omega arith))
    ∙ pick-false _ _ _ (other 5 (omega arith))

pub returns-in_default : goal.returns-in_default
returns-in_default c = let h : 5 < c.args.kind = omega arith in sym (none _ _ _ _ _ h)
