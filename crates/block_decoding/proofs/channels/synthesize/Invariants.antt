use Rattle.std.proofs.Common.{◌≡◌, ◌*◌, length, map, take, drop}
use Rattle.std.specs.List.{range_with_len}
use Rattle.block_decoding.specs.Shapes.{IsHalf}
use Rattle.block_decoding.proofs.EachChannel.{value_of}
use Rattle.block_decoding.proofs.channels.synthesize.Given as goal

abbrev pub invariant-loop-channel : goal.invariant-loop-channel
invariant-loop-channel l = record {
  left : l.left.items ≡ map (λ c. take l.size (value_of l.constants l.shape l.size l.residues l.curves c)) (range_with_len 0 l.channel);
  right : l.right.items ≡ map (λ c. drop l.size (value_of l.constants l.shape l.size l.residues l.curves c)) (range_with_len 0 l.channel);
  spectrum : length l.spectrum ≡ l.size;
  values : length l.values ≡ 2 * l.size;
  left_half : IsHalf l.channel l.size l.left.items;
  right_half : IsHalf l.channel l.size l.right.items;
}
