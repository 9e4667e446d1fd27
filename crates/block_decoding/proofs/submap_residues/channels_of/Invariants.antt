use Rattle.std.proofs.Common.{◌≡◌, ◌<◌, length}
use Rattle.std.specs.Prelude.{◌==◌, slice_index}
use Rattle.std.specs.List.{All, filter, range_with_len}
use Rattle.block_decoding.proofs.submap_residues.channels_of.Given as goal

abbrev pub invariant-loop-channel : goal.invariant-loop-channel
invariant-loop-channel l = record {
  channels : l.channels.items ≡ filter (λ channel. slice_index l.mux channel == l.number) (range_with_len 0 l.channel);
  there : All (λ channel. channel < length l.mux) l.channels.items;
}
