use Rattle.model_writing.specs.SetupWriting.{mapping_fields}
use Rattle.setup_fields.proofs.Puts.{item_places_of, one_more_of}
use Rattle.setup_header.proofs.mapping.write_each_mapping.Goals as goal

pub write_mapping-requires-clause-fits : goal.write_mapping-requires-clause-fits
write_mapping-requires-clause-fits c = item_places_of mapping_fields c.args.mappings.now c.loop-mapping.mapping-index c.mapping-item.result c.loop-mapping-test.true c.mapping-item.is c.requires.fits

pub loop-mapping-preserved : goal.loop-mapping-preserved
loop-mapping-preserved c = one_more_of mapping_fields c.args.mappings.now c.loop-mapping.mapping-index c.mapping-item.result c.loop-mapping-test.true c.mapping-item.is c.loop-mapping.invariant c.in_ok-write_mapping.ensures.put
