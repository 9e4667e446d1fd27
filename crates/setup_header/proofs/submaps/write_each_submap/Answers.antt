use Rattle.model_writing.specs.SetupWriting.{submap_fields}
use Rattle.setup_fields.proofs.Puts.{item_places_of, one_more_of}
use Rattle.setup_header.proofs.submaps.write_each_submap.Goals as goal

pub write_submap-requires : goal.write_submap-requires
write_submap-requires c = item_places_of submap_fields c.args.submaps.now c.loop-submap.submap-index c.submap-item.result c.loop-submap-test.true c.submap-item.is c.requires

pub loop-submap-preserved : goal.loop-submap-preserved
loop-submap-preserved c = one_more_of submap_fields c.args.submaps.now c.loop-submap.submap-index c.submap-item.result c.loop-submap-test.true c.submap-item.is c.loop-submap.invariant c.in_ok-write_submap.ensures.put
