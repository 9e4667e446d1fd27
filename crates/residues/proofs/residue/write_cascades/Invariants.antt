use Rattle.std.proofs.Common.{take, flat_map}
use Rattle.model_bits.specs.Writing.{optional_byte}
use Rattle.setup_fields.specs.Puts.{ArePut}
use Rattle.residues.proofs.residue.write_cascades.Given as goal

abbrev pub invariant-loop-cascade : goal.invariant-loop-cascade
invariant-loop-cascade l = ArePut l.fn.out l.out (flat_map (flat_map optional_byte) (take l.cascade-index l.cascades))
