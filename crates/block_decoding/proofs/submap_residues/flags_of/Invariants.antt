use Rattle.std.proofs.Common.{◌≡◌, map, take}
use Rattle.model_block.specs.PacketParts.{is_flagged}
use Rattle.block_decoding.proofs.submap_residues.flags_of.Given as goal

abbrev pub invariant-loop-channel : goal.invariant-loop-channel
invariant-loop-channel l = l.some.items ≡ map (is_flagged l.flags) (take l.channel-index l.channels)
