use Rattle.std.proofs.Common.{take, flat_map}
use Rattle.model_writing.specs.SetupWriting.{cascade_fields}
use Rattle.setup_fields.specs.Puts.{ArePut}
use Rattle.residues.proofs.residue.write_all_flags.Given as goal

abbrev pub invariant-loop-cascade : goal.invariant-loop-cascade
invariant-loop-cascade l = ArePut l.fn.out l.out (flat_map cascade_fields (take l.cascade-index l.cascades))
