use Rattle.model_writing.specs.SetupWriting.{class_fields}
use Rattle.setup_fields.proofs.Puts.{item_places_of, one_more_of}
use Rattle.floor_one.proofs.floor.write_classes.Goals as goal

pub write-requires : goal.write-requires
write-requires c = item_places_of class_fields c.args.classes.now c.loop-class.class-index c.class-item.result c.loop-class-test.true c.class-item.is c.requires

pub loop-class-preserved : goal.loop-class-preserved
loop-class-preserved c = one_more_of class_fields c.args.classes.now c.loop-class.class-index c.class-item.result c.loop-class-test.true c.class-item.is c.loop-class.invariant c.in_ok-write.ensures.put
