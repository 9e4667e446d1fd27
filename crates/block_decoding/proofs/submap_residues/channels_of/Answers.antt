use Rattle.std.proofs.Common.{arith}
use Rattle.std.proofs.lemmas.Grind.{common_steps}
use Rattle.block_decoding.proofs.Items.{filter_more}
use Rattle.block_decoding.proofs.submap_residues.channels_of.Goals as goal

pub loop-channel-preserved : goal.loop-channel-preserved
loop-channel-preserved c = grind (arith, common_steps, filter_more)
