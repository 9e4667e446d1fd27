use Rattle.setup_header.specs.Parts.{numbered_floor_fields}
use Rattle.setup_fields.proofs.Puts.{item_places_of, one_more_of}
use Rattle.setup_header.proofs.parts.write_each_floor.Goals as goal

pub write_floor-requires : goal.write_floor-requires
write_floor-requires c = item_places_of numbered_floor_fields c.args.floors.now c.loop-floor.floor-index c.floor-item.result c.loop-floor-test.true c.floor-item.is c.requires

pub loop-floor-preserved : goal.loop-floor-preserved
loop-floor-preserved c = one_more_of numbered_floor_fields c.args.floors.now c.loop-floor.floor-index c.floor-item.result c.loop-floor-test.true c.floor-item.is c.loop-floor.invariant c.in_ok-write_floor.ensures.put
