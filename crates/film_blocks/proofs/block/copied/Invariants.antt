use Rattle.std.proofs.Common.{◌≡◌, ◌++◌, drop}
use Rattle.film_blocks.proofs.block.copied.Given as goal

abbrev pub invariant-loop-channel : goal.invariant-loop-channel
invariant-loop-channel l = l.copy.items ++ drop l.channel-index l.channels ≡ l.half
