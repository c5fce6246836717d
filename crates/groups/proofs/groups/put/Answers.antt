-- The loop stores the groups of x one by one: `Storing` says what is stored and what is to come.
use Rattle.std.specs.Prelude.{◌≡◌, refl, List, [], ℕ, ◌+◌, ◌-◌, ◌/◌, ◌%◌, ◌<◌, ◌≤◌, length, set}
use Rattle.std.proofs.Common.{ap, arith, add-zero}
use Rattle.groups.specs.Groups.{encode, encode_in, encode_in-last, encode_in-more, encode_in-none}
use Rattle.groups.specs.Storing.{Storing, storing_none, storing_one, storing_done}
use Rattle.groups.proofs.groups.put.Goals as goal

-- a turn that stores the last group, and one that stores a group that continues
module _ {out : List ℕ} {i : ℕ} {out₀ all : List ℕ} {from : ℕ} (left y : ℕ) where
  last : 0 < left → y < 128 → Storing out i (encode_in left y) out₀ from all → Storing (set out i y) (i + 1) [] out₀ from all
  last p h g = storing_one y (encode_in-last left y p h) g

  more : 0 < left → 128 ≤ y → Storing out i (encode_in left y) out₀ from all
      → Storing (set out i (y % 128 + 128)) (i + 1) (encode_in (left - 1) (y / 128)) out₀ from all
  more p h g = storing_one _ (encode_in-more left y p h) g

pub loop-k-init : goal.loop-k-init
unfolding encode
loop-k-init c = rw add-zero (storing_none _ _ _)

pub loop-k-preserved : goal.loop-k-preserved
loop-k-preserved c =
    let l = c.loop-k in
    let i : c.args.place + (l.k + 1) ≡ c.args.place + l.k + 1 = omega arith in
    let left : 4 - (l.k + 1) ≡ 4 - l.k - 1 = omega arith in
    rw (i, left) (more (4 - l.k) l.y (omega arith) (omega arith) l.invariant)

pub returns : goal.returns
returns c =
    let l = c.loop-k in
    let z : 4 - l.k ≡ 0 = omega arith in
    let e : encode_in (4 - l.k) l.y ≡ [] = rw z (encode_in-none l.y) in
    (omega (arith, l.invariant.ends, ap length e), storing_done e l.invariant)

pub bounds-output-place : goal.bounds-output-place
bounds-output-place c =
    let l = c.loop-k in
    let g = last (4 - l.k) l.y (omega arith) (omega arith) l.invariant in
    omega (arith, g.ends, l.invariant.size)

pub returns-then-y-lt128 : goal.returns-then-y-lt128
returns-then-y-lt128 c =
    let l = c.loop-k in
    let g = last (4 - l.k) l.y (omega arith) (omega arith) l.invariant in
    (omega (arith, g.ends), storing_done refl g)

pub bounds-output-place-in-loop-k : goal.bounds-output-place-in-loop-k
bounds-output-place-in-loop-k c =
    let l = c.loop-k in
    let g = more (4 - l.k) l.y (omega arith) (omega arith) l.invariant in
    omega (arith, g.ends, l.invariant.size)
