use Rattle.std.proofs.Common.{◌≡◌, length}
use Rattle.model_ogg.specs.Streams.{stream_of}
use Rattle.ogg_packets.proofs.walk.StreamPagesIterator.next.Given as goal

abbrev pub invariant-loop-page : goal.invariant-loop-page
invariant-loop-page l = record {
  serial : l.self.serial ≡ l.fn.self.serial;
  same : stream_of l.self.serial l.self.rest.now ≡ stream_of l.fn.self.serial l.fn.self.rest.now;
}

abbrev pub decreases-loop-page : goal.decreases-loop-page
decreases-loop-page l = length l.self.rest.now
