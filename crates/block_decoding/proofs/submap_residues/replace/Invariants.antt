use Rattle.std.proofs.Common.{◌≡◌, ◌+◌, length, drop}
use Rattle.model_block.specs.PacketParts.{replaced}
use Rattle.block_decoding.proofs.submap_residues.replace.Given as goal

abbrev pub invariant-loop-channel : goal.invariant-loop-channel
invariant-loop-channel l = record {
  put : replaced l.all (drop l.channel-index l.channels) l.lines.items ≡ replaced l.fn.all l.channels l.fn.lines.items;
  count : length l.lines.items + l.channel-index ≡ length l.channels;
  room : length l.all ≡ length l.fn.all;
}
