use Rattle.std.proofs.Common.{◌≤◌, arith}
use Rattle.ogg_pages.proofs.RingSteps.{leap_law}
use Rattle.ogg_pages.proofs.ring.Ring.leap.Goals as goal

pub returns-clause-register : goal.returns-clause-register
returns-clause-register c =
    let ring = c.go_on_to.new.self in
    let low : ring.first ≤ c.args.from = omega arith in
    let high : c.args.to ≤ ring.last = omega arith in
    leap_law c.args.bytes.now ring c.args.register c.kept-2.result c.kept.result c.slabs_passed.result c.args.from c.args.to c.go_on_to.ensures.ring (λ k. omega (arith, c.type_inv.bytes k)) low
    c.requires.ordered high (omega arith) c.ranges.register.fits c.kept-2.ensures c.kept.ensures c.slabs_passed.ensures
