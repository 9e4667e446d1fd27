use Rattle.std.proofs.Common.{take, flat_map}
use Rattle.model_bits.specs.Writing.{optional_byte}
use Rattle.setup_fields.specs.Puts.{ArePut}
use Rattle.residues.proofs.residue.write_cascade.Given as goal

abbrev pub invariant-loop-book : goal.invariant-loop-book
invariant-loop-book l = ArePut l.fn.out l.out (flat_map optional_byte (take l.book-index l.cascade))
