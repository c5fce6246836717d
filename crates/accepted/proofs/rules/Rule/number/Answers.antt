use mathlib.Core.Path.{sym, ap, ◌∙◌}
use Prim.Native.Nat.{ℕ, ◌+◌}
use native.Mathlib.Nat.{add-zero}
use borrow.Author.Rules.{rules}
use lib.ListN.{get_or}
use borrow.Author.Tests.{eq-eqb, ne_eqb}
use Rattle.masks.specs.Pick.{pick_true, pick-false}
use Rattle.accepted.specs.Facts.{mask-ends-at}
use Rattle.accepted.proofs.rules.Rule.number.Goals as goal

pub overflow_add-result-then-kind-eq0 : goal.overflow_add-result-then-kind-eq0
overflow_add-result-then-kind-eq0 c =
    let k = mask-ends-at _ _ _ c.args.self.at _ (sym c.kind.ensures ∙ c.if-kind-eq0.true) c.requires in
    search rules

pub offset_bounds-self-self : goal.offset_bounds-self-self
offset_bounds-self-self c =
    let k = mask-ends-at _ _ _ c.args.self.at _ (sym c.kind.ensures ∙ c.if-kind-eq0.true) c.requires in
    search rules

pub bounds-self-self : goal.bounds-self-self
bounds-self-self c = mask-ends-at _ _ _ c.args.self.at _ (sym c.kind.ensures ∙ c.if-kind-eq0.true) c.requires

pub returns-then-kind-eq0 : goal.returns-then-kind-eq0
returns-then-kind-eq0 c =
    let s = c.args.self in
    ap (λ (i : ℕ). get_or s.numbers.now (i + 3 + c.args.a) 0) s.at.at
    ∙ sym (pick_true _ _ _ (eq-eqb _ 0 (sym c.kind.ensures ∙ c.if-kind-eq0.true)))

pub returns : goal.returns
returns c =
    let s = c.args.self in
    ap (λ (i : ℕ). get_or s.numbers.now i 0) (sym (add-zero (s.place + 3)))
    ∙ ap (λ (i : ℕ). get_or s.numbers.now (i + 3 + 0) 0) s.at.at
    ∙ sym (pick-false _ _ _ (ne_eqb _ 0 (λ z. c.if-kind-eq0.false (c.kind.ensures ∙ z))))
