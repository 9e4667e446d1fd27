use Rattle.std.proofs.Common.{arith}
use Rattle.ogg_packets.proofs.StreamSteps.{stream_within}
use Rattle.film_blocks.proofs.links.counts_of.Goals as goal

pub overflow_cast-result : goal.overflow_cast-result
overflow_cast-result c = omega (arith, c.stream_len.ensures, stream_within c.args.serial c.args.pages.now)
