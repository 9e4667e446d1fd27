use Rattle.model_writing.specs.SetupWriting.{mode_fields}
use Rattle.setup_fields.proofs.Puts.{item_places_of, one_more_of}
use Rattle.setup_header.proofs.mode.write_each_mode.Goals as goal

pub write_mode-requires : goal.write_mode-requires
write_mode-requires c = item_places_of mode_fields c.args.modes.now c.loop-mode.mode-index c.mode-item.result c.loop-mode-test.true c.mode-item.is c.requires

pub loop-mode-preserved : goal.loop-mode-preserved
loop-mode-preserved c = one_more_of mode_fields c.args.modes.now c.loop-mode.mode-index c.mode-item.result c.loop-mode-test.true c.mode-item.is c.loop-mode.invariant c.in_ok-write_mode.ensures.put
