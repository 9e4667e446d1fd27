use Rattle.std.proofs.Common.{◌+◌, ◌*◌, ◌/◌, arith}
use Rattle.ogg_pages.specs.declared.leaps.TheConstants.{SLAB_LEN}
use Rattle.ogg_pages.proofs.RingSteps.{three_parts}
use Rattle.ogg_pages.proofs.ring.Ring.range_added.Goals as goal

pub returns-clause-register : goal.returns-clause-register
returns-clause-register c =
    let first = c.args.from / SLAB_LEN + 1 in
    let last = c.args.end / SLAB_LEN in
    three_parts c.args.bytes.now c.args.register c.bytes_added-begun.result c.leap-leapt.result c.bytes_added-2.result c.args.from (first * SLAB_LEN) (last * SLAB_LEN) c.args.end
    (omega arith) (omega arith) (omega arith) c.bytes_added-begun.ensures c.leap-leapt.ensures.register c.bytes_added-2.ensures
