use Rattle.std.proofs.Common.{◌≡◌, length, drop}
use Rattle.std.specs.List.{All, range_with_len}
use Rattle.model_bits.specs.Reading.{each}
use Rattle.model_bits.proofs.Times.{with_front}
use Rattle.model_setup.specs.ResidueSetup.{FitsBooks}
use Rattle.model_setup.specs.SetupPacket.{numbered_residue_at}
use Rattle.setup_header.proofs.parts.read_each_residue.Given as goal

abbrev pub invariant-loop-number : goal.invariant-loop-number
invariant-loop-number l = record {
  read : with_front l.residues.items (each (numbered_residue_at l.books) (drop l.number (range_with_len 0 l.count)) l.bits.left) ≡ each (numbered_residue_at l.books) (range_with_len 0 l.count) l.fn.bits.left;
  count : length l.residues.items ≡ l.number;
  fit : All (FitsBooks l.books) l.residues.items;
  bytes : l.bits.total ≡ l.fn.bits.total;
}
