use Rattle.std.proofs.Common.{take, flat_map}
use Rattle.model_writing.specs.SetupWriting.{mapping_fields}
use Rattle.setup_fields.specs.Puts.{ArePut}
use Rattle.setup_header.proofs.mapping.write_each_mapping.Given as goal

abbrev pub invariant-loop-mapping : goal.invariant-loop-mapping
invariant-loop-mapping l = ArePut l.fn.out l.out (flat_map mapping_fields (take l.mapping-index l.mappings))
