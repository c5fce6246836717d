-- `check` trusts what is remembered while the set holds all of it, and else tests.
use mathlib.Core.Path.{◌≡◌, refl, sym, ap, ◌∙◌}
use mathlib.Core.Logic.{◌↔◌}
use mathlib.Core.Bool.{Bool, true, false, true≢false}
use native.Mathlib.Omega.{arith}
use Rattle.masks.specs.Tests.{never}
use Rattle.masks.specs.Restrict.{restrict}
use Rattle.masks.proofs.Restrict.{length-restrict}
use Rattle.closing.specs.Asks.{place_bound, tested-masks}
use Rattle.visiting.specs.Store.{remembered_passes, remembered_now, known_added, memory-same, store-add}
use Rattle.visiting.proofs.store.check.Goals as goal

-- what does not hold is as false as false
false-iff : {A : Type 0} {b : Bool} → (b ≡ true) ↔ A → b ≡ false → (false ≡ true) ↔ A
false-iff i n = (λ e. absurd (true≢false (sym e)), λ a. absurd (never (i.1 a) n))

pub recalled-requires : goal.recalled-requires
recalled-requires c =
    let a = c.requires.live_asks in
    let l = place_bound _ _ a.0 _ _ c.requires.hood_asks.1 in
    (l.1, l.2, a.1.long, a.0.masks)

pub returns-then-recalled : goal.returns-then-recalled
returns-then-recalled c =
    let r = c.recalled.ensures.0 c.if-recalled.true in
    let s = c.requires.live_asks.1 in
    let m = remembered_passes _ _ _ _ _ _ (s.keeps _ _ r.1) r.2 in record {
      checked = record {
        passed = sym m.0;
        store = s;
        kept = λ _ _. (r.1, m.1);
        recalled = (λ _. r, λ _. refl);
        untouched = λ _. (refl, refl, refl, refl);
      };
      counted = c.requires.counted;
      kept = record { counter = refl; support = refl };
    }

pub offset_bounds-hood-f : goal.offset_bounds-hood-f
offset_bounds-hood-f c =
    let l = (place_bound _ _ c.requires.live_asks.0 _ _ c.requires.hood_asks.1).1 in omega arith

pub bounds-hood-f : goal.bounds-hood-f
bounds-hood-f c = (place_bound _ _ c.requires.live_asks.0 _ _ c.requires.hood_asks.1).1

pub test-requires : goal.test-requires
test-requires c =
    let h = c.requires.hood_asks in record {
      live_asks = (c.requires.live_asks.0, h.1, h.0.fields, h.0.self);
      counted = c.requires.counted;
    }

pub returns-then-not-test : goal.returns-then-not-test
returns-then-not-test c =
    let t = c.test.ensures in
    let failed = c.if-not-test.true in record {
      checked = record {
        passed = sym failed ∙ t.tested.passed;
        store = c.requires.live_asks.1;
        kept = λ _ e. absurd (true≢false (sym e));
        recalled = false-iff c.recalled.ensures c.if-recalled.false;
        untouched = λ e. absurd (true≢false (sym e));
      };
      counted = t.counted;
      kept = t.kept;
    }

pub remember-requires : goal.remember-requires
remember-requires c =
    let a = c.requires.live_asks in
    let l = place_bound _ _ a.0 _ _ c.requires.hood_asks.1 in
    let ok = c.if-not-test.false in
    (l.1, l.2, a.1.long, tested-masks _ _ a.0 c.test.ensures.tested ok)

pub one_bit-requires : goal.one_bit-requires
one_bit-requires c =
    let l = place_bound _ _ c.requires.live_asks.0 _ _ c.requires.hood_asks.1 in omega arith

pub offset_bounds-known-f : goal.offset_bounds-known-f
offset_bounds-known-f c =
    let l = (place_bound _ _ c.requires.live_asks.0 _ _ c.requires.hood_asks.1).1 in omega arith

pub bounds-known-f : goal.bounds-known-f
bounds-known-f c = (place_bound _ _ c.requires.live_asks.0 _ _ c.requires.hood_asks.1).1

pub bounds-known-f-then-remembers : goal.bounds-known-f-then-remembers
bounds-known-f-then-remembers c = (place_bound _ _ c.requires.live_asks.0 _ _ c.requires.hood_asks.1).1

pub returns-then-remembers : goal.returns-then-remembers
returns-then-remembers c =
    let a = c.requires.live_asks in
    let l = place_bound _ _ a.0 _ _ c.requires.hood_asks.1 in
    let ok = c.if-not-test.false in
    let d = c.test.ensures.tested in
    let stored = c.remember.ensures in
    let sized = length-restrict _ _ ∙ (tested-masks _ _ a.0 d ok).long in
    let rest = ap (restrict _) (d.rest ok) in record {
      checked = record {
        passed = sym ok ∙ d.passed;
        store = rw c.one_bit.ensures
            (store-add _ _ _ _ _ a.1 _ _ l.1 l.2 _ sized _ stored
            (remembered_now _ _ _ _ _ _ (sym d.passed ∙ ok) rest));
        kept = λ _ _. (
          rw c.one_bit.ensures (known_added _ _ _ _ _ a.1 _ _ l.1 l.2),
          memory-same _ _ _ _ _ a.1 _ _ l.1 l.2 _ sized _ stored ∙ rest,
        );
        recalled = false-iff c.recalled.ensures c.if-recalled.false;
        untouched = λ e. absurd (true≢false (sym e));
      };
      counted = c.test.ensures.counted;
      kept = c.test.ensures.kept;
    }

pub returns-else-remembers : goal.returns-else-remembers
returns-else-remembers c =
    let t = c.test.ensures in record {
      checked = record {
        passed = sym c.if-not-test.false ∙ t.tested.passed;
        store = c.requires.live_asks.1;
        kept = λ e _. absurd (never e c.if-remembers.false);
        recalled = false-iff c.recalled.ensures c.if-recalled.false;
        untouched = λ e. absurd (true≢false (sym e));
      };
      counted = t.counted;
      kept = t.kept;
    }
