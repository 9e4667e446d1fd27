use Rattle.std.proofs.Common.{◌<◌}
use Rattle.test_decoding.proofs.bits.takes_fields.Given as goal

abbrev pub invariant-loop-count : goal.invariant-loop-count
invariant-loop-count g l = l.bits.total < 800
