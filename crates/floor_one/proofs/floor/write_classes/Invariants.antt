use Rattle.std.proofs.Common.{take, flat_map}
use Rattle.model_writing.specs.SetupWriting.{class_fields}
use Rattle.setup_fields.specs.Puts.{ArePut}
use Rattle.floor_one.proofs.floor.write_classes.Given as goal

abbrev pub invariant-loop-class : goal.invariant-loop-class
invariant-loop-class l = ArePut l.fn.out l.out (flat_map class_fields (take l.class-index l.classes))
