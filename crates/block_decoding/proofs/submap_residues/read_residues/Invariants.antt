use Rattle.std.proofs.Common.{◌≡◌, [], length, replicate}
use Rattle.std.specs.Prelude.{fold}
use Rattle.std.specs.List.{range_with_len}
use Rattle.model_block.specs.PacketParts.{with_submap}
use Rattle.block_decoding.proofs.Puts.{AreRead}
use Rattle.block_decoding.proofs.submap_residues.read_residues.Given as goal

abbrev pub invariant-loop-number : goal.invariant-loop-number
invariant-loop-number l = record {
  read : (l.all.items, l.bits.left) ≡ fold (with_submap l.setup l.mapping l.size l.wanted) (replicate (length l.mapping.mux) [], l.fn.bits.left) (range_with_len 0 l.number);
  count : length l.all.items ≡ length l.mapping.mux;
  lines : AreRead l.mapping.mux l.size l.number l.all.items;
  bytes : l.bits.total ≡ l.fn.bits.total;
}
