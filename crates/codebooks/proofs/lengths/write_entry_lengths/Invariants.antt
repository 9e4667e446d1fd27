use Rattle.std.proofs.Common.{take, flat_map}
use Rattle.model_writing.specs.SetupWriting.{entry_fields}
use Rattle.setup_fields.specs.Puts.{ArePut}
use Rattle.codebooks.proofs.lengths.write_entry_lengths.Given as goal

abbrev pub invariant-loop-len : goal.invariant-loop-len
invariant-loop-len l = ArePut l.fn.out l.out (flat_map (entry_fields l.sparse) (take l.len-index l.lengths))
