use Rattle.std.proofs.Common.{sym, ap, ◌∙◌, rules}
use lib.Seq.{length-take-le}
use lib.ListN.{take}
use Rattle.std.specs.Prelude.{◌≡◌, Err}
use Rattle.accepted.specs.Facts.{facts}
use Rattle.accepted.specs.Parts.{fields_of}
use Rattle.belaykeel_offers.specs.Opening.{opened-refused, opened-front, opened-accepted, opened-ends}
use Rattle.belaykeel_offers.proofs.opened.Goals as goal

pub returns-in_err-count : goal.returns-in_err-count
returns-in_err-count c =
    let r = c.in_err-count.field-0.0 in
    let q : c.from_residual.result ≡ Err r = search rules in
    rw q (opened-refused c.args.sheet.now c.args.numbers.now c.requires.0 _ r c.in_err-count.ensures c.args.offers.now c.requires.1)

pub slice_bounds-accepted-end : goal.slice_bounds-accepted-end
slice_bounds-accepted-end c = opened-ends c.args.sheet.now c.args.numbers.now c.requires.0 _ c.in_ok-count.count c.in_ok-count.ensures

pub slice_bounds-accepted-end-2 : goal.slice_bounds-accepted-end-2
slice_bounds-accepted-end-2 c =
    sym (length-take-le _ _ (opened-ends c.args.sheet.now c.args.numbers.now c.requires.0 _ c.in_ok-count.count c.in_ok-count.ensures))

pub invariant_of-accepted : goal.invariant_of-accepted
invariant_of-accepted c = record {
  accepted = opened-accepted c.args.sheet.now c.args.numbers.now c.requires.0 _ c.in_ok-count.count c.in_ok-count.ensures;
}

pub open_rising-requires : goal.open_rising-requires
open_rising-requires c =
    let a = opened-accepted c.args.sheet.now c.args.numbers.now c.requires.0 _ c.in_ok-count.count c.in_ok-count.ensures in
    rw c.fields.ensures ((facts _ a).fields-few)

pub returns-in_err-open_rising : goal.returns-in_err-open_rising
returns-in_err-open_rising c =
    let front = opened-front c.args.sheet.now c.args.numbers.now c.requires.0 _ c.in_ok-count.count c.in_ok-count.ensures in
    let o = rw (c.fields.ensures ∙ ap fields_of front) at c.in_err-open_rising.ensures in
    let q : c.from_residual-in_err-open_rising.result ≡ Err c.in_err-open_rising.field-0.0 = search rules in
    rw q (record { number = o.0; offers = o.1; numbers = tt; accepted = tt; ends = tt })

pub returns : goal.returns
returns c =
    let s = c.args.sheet.now in
    let xs = c.args.numbers.now in
    let k = c.in_ok-count in
    let front = opened-front s xs c.requires.0 _ k.count k.ensures in
    let o = rw (c.fields.ensures ∙ ap fields_of front) at c.in_ok-open_rising.ensures in
    record {
      number = o.0;
      offers = o.1;
      numbers = front;
      accepted = opened-accepted s xs c.requires.0 _ k.count k.ensures;
      ends = opened-ends s xs c.requires.0 _ k.count k.ensures;
    }
