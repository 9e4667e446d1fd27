use Rattle.std.proofs.Common.{take, flat_map}
use Rattle.setup_header.specs.Parts.{numbered_residue_fields}
use Rattle.setup_fields.specs.Puts.{ArePut}
use Rattle.setup_header.proofs.parts.write_each_residue.Given as goal

abbrev pub invariant-loop-residue : goal.invariant-loop-residue
invariant-loop-residue l = ArePut l.fn.out l.out (flat_map numbered_residue_fields (take l.residue-index l.residues))
