-- A group that stands in the bytes leaves the groups after it; one that does not ends the number.
use Rattle.std.specs.Prelude.{◌≡◌, ℕ, Bool, ◌&&◌, List, ◌+◌, ◌-◌, ◌*◌, ◌<◌, ◌≤◌, ltb, eqb, length, drop, get_or, Err}
use Rattle.std.proofs.Common.{sym, ap, ap₂, ◌∙◌, arith, rules, lt-ltb}
use Rattle.masks.specs.Pick.{pick}
use Rattle.limits.specs.declared.refusals.Refusal.{Refusal}
use Rattle.limits.specs.declared.refusals.Refusal.TheVariants.{EndsInside}
use Rattle.groups.specs.Groups.{groups, number_at, last_group, found, groups_ended, groups_none, groups-last, groups-more}
use Rattle.groups.proofs.groups.number_at.Goals as goal

-- the group x stands at a place of the bytes, or the bytes end there
abbrev Group : (s : List ℕ) (i x : ℕ) → Type 0
Group s i x = (i < length s) × (x ≡ get_or s i 0) × (x < 256)

abbrev NoGroup : (s : List ℕ) (i : ℕ) (e : Refusal) → Type 0
NoGroup s i e = (length s ≤ i) × (e ≡ EndsInside)

-- a group that continues
more : (s : List ℕ) (w v i left x : ℕ) → 0 < left → Group s i x → 128 ≤ x
    → groups left w v i (drop i s) ≡ groups (left - 1) (w * 128) (v + w * (x - 128)) (i + 1) (drop (i + 1) s)
more s w v i left x p g k =
    groups-more s w v i left p g.0 (rw g.1 at k) (rw g.1 at g.2)
    ∙ ap (λ (y : ℕ). groups (left - 1) (w * 128) (v + w * (y - 128)) (i + 1) (drop (i + 1) s)) (sym g.1)

-- what is left after one, two and three groups that continue, from the place p on
module _ (s : List ℕ) (p a : ℕ) (ga : Group s p a) (ka : 128 ≤ a) where
  one : number_at s p ≡ groups 3 128 (a - 128) (p + 1) (drop (p + 1) s)
  unfolding number_at
  one = more s 1 0 p 4 a (omega arith) ga ka ∙ ap (λ (v : ℕ). groups 3 128 v (p + 1) (drop (p + 1) s)) (omega arith)

  module _ (b : ℕ) (gb : Group s (p + 1) b) (kb : 128 ≤ b) where
    two : number_at s p ≡ groups 2 16384 (a - 128 + 128 * (b - 128)) (p + 1 + 1) (drop (p + 1 + 1) s)
    two = one ∙ more s 128 (a - 128) (p + 1) 3 b (omega arith) gb kb

    module _ (d : ℕ) (gd : Group s (p + 1 + 1) d) (kd : 128 ≤ d) where
      three : number_at s p ≡ groups 1 2097152 (a - 128 + 128 * (b - 128) + 16384 * (d - 128)) (p + 1 + 1 + 1) (drop (p + 1 + 1 + 1) s)
      three = two ∙ more s 16384 (a - 128 + 128 * (b - 128)) (p + 1 + 1) 2 d (omega arith) gd kd

-- a last group, after another
last : (s : List ℕ) (w v i left y : ℕ) → 0 < left → 1 < w → Group s i y → y < 128
    → last_group (eqb y 0) (v + w * y) (i + 1) ≡ groups left w v i (drop i s)
last s w v i left y p q g k =
    let t : (ltb 1 w && eqb (get_or s i 0) 0) ≡ eqb y 0 = rw (lt-ltb 1 w q, g.1) in
    ap₂ (λ (t : Bool) (z : ℕ). last_group t (v + w * z) (i + 1)) (sym t) g.1 ∙ sym (groups-last s w v i left p g.0 (rw g.1 at k))

-- no group
ended : (s : List ℕ) (w v i left : ℕ) (e : Refusal) → 0 < left → NoGroup s i e → Err e ≡ groups left w v i (drop i s)
ended s w v i left e p h = ap Err h.1 ∙ sym (groups_ended s w v i left p h.0)

pub returns-in_err-a : goal.returns-in_err-a
unfolding number_at
returns-in_err-a c =
    let a = c.args in
    let q : c.from_residual.result ≡ Err c.in_err-a.field-0.0 = search rules in
    q ∙ ended a.sheet.now 1 0 a.place 4 _ (omega arith) c.in_err-a.ensures

pub returns-then-a-lt128 : goal.returns-then-a-lt128
unfolding number_at pick
returns-then-a-lt128 c =
    let a = c.args in
    let g = c.in_ok-a.ensures in
    sym (groups-last a.sheet.now 1 0 a.place 4 (omega arith) g.0 (omega arith)
    ∙ ap (λ (y : ℕ). found y (a.place + 1)) (omega arith))

pub returns-in_err-b : goal.returns-in_err-b
returns-in_err-b c =
    let a = c.args in
    let q : c.from_residual-in_err-b.result ≡ Err c.in_err-b.field-0.0 = search rules in
    q ∙ ended a.sheet.now 128 _ (a.place + 1) 3 _ (omega arith) c.in_err-b.ensures
    ∙ sym (one a.sheet.now a.place _ c.in_ok-a.ensures (omega arith))

pub returns-then-b-lt128 : goal.returns-then-b-lt128
returns-then-b-lt128 c =
    let a = c.args in
    c.last_group.ensures ∙ last a.sheet.now 128 _ (a.place + 1) 3 _ (omega arith) (omega arith) c.in_ok-b.ensures (omega arith)
    ∙ sym (one a.sheet.now a.place _ c.in_ok-a.ensures (omega arith))

pub returns-in_err-c : goal.returns-in_err-c
returns-in_err-c c =
    let a = c.args in
    let q : c.from_residual-in_err-c.result ≡ Err c.in_err-c.field-0.0 = search rules in
    q ∙ ended a.sheet.now 16384 _ (a.place + 1 + 1) 2 _ (omega arith) c.in_err-c.ensures
    ∙ sym (two a.sheet.now a.place _ c.in_ok-a.ensures (omega arith) _ c.in_ok-b.ensures (omega arith))

pub returns-then-c-lt128 : goal.returns-then-c-lt128
returns-then-c-lt128 c =
    let a = c.args in
    c.last_group-then-c-lt128.ensures
    ∙ last a.sheet.now 16384 _ (a.place + 1 + 1) 2 _ (omega arith) (omega arith) c.in_ok-c.ensures (omega arith)
    ∙ sym (two a.sheet.now a.place _ c.in_ok-a.ensures (omega arith) _ c.in_ok-b.ensures (omega arith))

pub returns-in_err-d : goal.returns-in_err-d
returns-in_err-d c =
    let a = c.args in
    let q : c.from_residual-in_err-d.result ≡ Err c.in_err-d.field-0.0 = search rules in
    q ∙ ended a.sheet.now 2097152 _ (a.place + 1 + 1 + 1) 1 _ (omega arith) c.in_err-d.ensures
    ∙ sym (three a.sheet.now a.place _ c.in_ok-a.ensures (omega arith) _ c.in_ok-b.ensures (omega arith)
    _ c.in_ok-c.ensures (omega arith))

pub returns-then-d-lt128 : goal.returns-then-d-lt128
returns-then-d-lt128 c =
    let a = c.args in
    c.last_group-then-d-lt128.ensures
    ∙ last a.sheet.now 2097152 _ (a.place + 1 + 1 + 1) 1 _ (omega arith) (omega arith) c.in_ok-d.ensures (omega arith)
    ∙ sym (three a.sheet.now a.place _ c.in_ok-a.ensures (omega arith) _ c.in_ok-b.ensures (omega arith)
    _ c.in_ok-c.ensures (omega arith))

pub returns : goal.returns
returns c =
    let a = c.args in
    sym (three a.sheet.now a.place _ c.in_ok-a.ensures (omega arith) _ c.in_ok-b.ensures (omega arith)
    _ c.in_ok-c.ensures (omega arith)
    ∙ more a.sheet.now 2097152 _ (a.place + 1 + 1 + 1) 1 _ (omega arith) c.in_ok-d.ensures (omega arith)
    ∙ groups_none a.sheet.now _ _ (a.place + 1 + 1 + 1 + 1))
