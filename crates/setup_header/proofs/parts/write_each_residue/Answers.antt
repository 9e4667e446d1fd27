use Rattle.setup_header.specs.Parts.{numbered_residue_fields}
use Rattle.setup_fields.proofs.Puts.{item_places_of, one_more_of}
use Rattle.setup_header.proofs.parts.write_each_residue.Goals as goal

pub write_residue-requires : goal.write_residue-requires
write_residue-requires c = item_places_of numbered_residue_fields c.args.residues.now c.loop-residue.residue-index c.residue-item.result c.loop-residue-test.true c.residue-item.is c.requires

pub loop-residue-preserved : goal.loop-residue-preserved
loop-residue-preserved c = one_more_of numbered_residue_fields c.args.residues.now c.loop-residue.residue-index c.residue-item.result c.loop-residue-test.true c.residue-item.is c.loop-residue.invariant c.in_ok-write_residue.ensures.put
