use Rattle.std.proofs.Common.{◌≡◌}
use Rattle.ogg_packets.proofs.stream.unpacked.Given as goal

abbrev pub invariant-loop-entry : goal.invariant-loop-entry
invariant-loop-entry l = l.entries.items ≡ l.yielded
