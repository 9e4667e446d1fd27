use Rattle.model_writing.specs.SetupWriting.{coupling_fields}
use Rattle.setup_fields.proofs.Puts.{item_places, one_more}
use Rattle.setup_header.proofs.couplings.write_each_coupling.Goals as goal

pub write_coupling-requires : goal.write_coupling-requires
write_coupling-requires c = item_places (coupling_fields c.args.channels) c.args.couplings.now c.loop-coupling.coupling-index _ c.loop-coupling-test.true c.requires

pub loop-coupling-preserved : goal.loop-coupling-preserved
loop-coupling-preserved c = one_more (coupling_fields c.args.channels) c.args.couplings.now c.loop-coupling.coupling-index _ c.loop-coupling-test.true c.loop-coupling.invariant c.in_ok-write_coupling.ensures.put
