use Rattle.std.proofs.Common.{◌≡◌, length, drop}
use Rattle.std.specs.List.{All, range_with_len}
use Rattle.model_bits.specs.Reading.{each}
use Rattle.model_bits.proofs.Times.{with_front}
use Rattle.model_setup.specs.SetupPacket.{mapping_at, IsMapping}
use Rattle.setup_header.proofs.mapping.read_each_mapping.Given as goal

abbrev pub invariant-loop-number : goal.invariant-loop-number
invariant-loop-number l = record {
  read : with_front l.mappings.items (each (mapping_at l.bounds.channels l.bounds.floors l.bounds.residues) (drop l.number (range_with_len 0 l.count)) l.bits.left) ≡ each (mapping_at l.bounds.channels l.bounds.floors l.bounds.residues) (range_with_len 0 l.count) l.fn.bits.left;
  count : length l.mappings.items ≡ l.number;
  mappings : All (IsMapping l.bounds.channels l.bounds.floors l.bounds.residues) l.mappings.items;
  bytes : l.bits.total ≡ l.fn.bits.total;
}
