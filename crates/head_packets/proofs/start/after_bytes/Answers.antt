use Rattle.std.proofs.Common.{arith, eq-eqb}
use Rattle.std.proofs.lemmas.Bool.{ne_eqb}
use Rattle.std.proofs.lemmas.List.{nil_from_length}
use Rattle.head_packets.proofs.Starts.{bytes_end, bytes_differ, bytes_go_on, bytes_done}
use Rattle.head_packets.proofs.start.after_bytes.Goals as goal

pub returns-in_default : goal.returns-in_default
returns-in_default c = bytes_end c.args.wanted.now c.loop-byte.byte-index c.loop-byte.rest.now _ c.loop-byte.invariant c.loop-byte-test.true (nil_from_length c.loop-byte.rest.now c.in_default.ensures.cases)

pub returns-then-first-byte : goal.returns-then-first-byte
returns-then-first-byte c = bytes_differ c.args.wanted.now c.loop-byte.byte-index c.loop-byte.rest.now _ c.loop-byte.invariant c.in-Some.first.now c.in-Some.others.now c.loop-byte-test.true c.in-Some.ensures.cases.0 (omega arith) (ne_eqb _ _ c.if-first-byte.true)

pub loop-byte-preserved : goal.loop-byte-preserved
loop-byte-preserved c = bytes_go_on c.args.wanted.now c.loop-byte.byte-index c.loop-byte.rest.now _ c.loop-byte.invariant c.in-Some.first.now c.in-Some.others.now c.loop-byte-test.true c.in-Some.ensures.cases.0 (omega arith) (eq-eqb _ _ c.if-first-byte.false)

pub returns : goal.returns
returns c = bytes_done c.args.wanted.now c.loop-byte.byte-index c.loop-byte.rest.now _ c.loop-byte.invariant (omega arith)
