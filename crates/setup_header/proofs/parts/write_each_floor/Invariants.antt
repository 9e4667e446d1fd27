use Rattle.std.proofs.Common.{take, flat_map}
use Rattle.setup_header.specs.Parts.{numbered_floor_fields}
use Rattle.setup_fields.specs.Puts.{ArePut}
use Rattle.setup_header.proofs.parts.write_each_floor.Given as goal

abbrev pub invariant-loop-floor : goal.invariant-loop-floor
invariant-loop-floor l = ArePut l.fn.out l.out (flat_map numbered_floor_fields (take l.floor-index l.floors))
