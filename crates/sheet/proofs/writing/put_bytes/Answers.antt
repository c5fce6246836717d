use Rattle.std.specs.Prelude.{◌+◌, length, drop, get_or}
use Rattle.std.proofs.Common.{ap, arith, length-append}
use Rattle.groups.specs.Groups.{encode}
use Rattle.groups.specs.Storing.{storing_part, storing_done}
use Rattle.sheet.specs.Sources.{bytes_of}
use Rattle.sheet.specs.Progress.{bytes_next, bytes_end}
use Rattle.sheet.proofs.writing.put_bytes.Goals as goal

pub put-place-requires : goal.put-place-requires
put-place-requires c =
    let l = c.loop-x in
    let xs = c.args.numbers.now in
    let k = l.x-index in
    let e = ap length (bytes_next xs k (omega arith)) in
    omega (arith, e, length-append (encode (get_or xs k 0)) (bytes_of (drop (k + 1) xs)), l.invariant.ends, l.invariant.size)

pub loop-x-preserved : goal.loop-x-preserved
loop-x-preserved c =
    let l = c.loop-x in
    let xs = c.args.numbers.now in
    let k = l.x-index in
    let q = c.put-place.ensures in
    rw q.0 (storing_part (encode (get_or xs k 0)) _ (bytes_next xs k (omega arith)) q.1 l.invariant)

pub returns : goal.returns
returns c =
    let l = c.loop-x in
    storing_done (bytes_end c.args.numbers.now l.x-index (omega arith)) l.invariant
