use Rattle.std.proofs.Common.{take, flat_map}
use Rattle.model_writing.specs.SetupWriting.{submap_fields}
use Rattle.setup_fields.specs.Puts.{ArePut}
use Rattle.setup_header.proofs.submaps.write_each_submap.Given as goal

abbrev pub invariant-loop-submap : goal.invariant-loop-submap
invariant-loop-submap l = ArePut l.fn.out l.out (flat_map submap_fields (take l.submap-index l.submaps))
