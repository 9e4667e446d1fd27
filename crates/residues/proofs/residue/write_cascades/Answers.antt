use Rattle.std.proofs.Common.{[], flat_map}
use Rattle.model_bits.specs.Writing.{optional_byte}
use Rattle.setup_fields.proofs.Puts.{one_more}
use Rattle.residues.proofs.residue.write_cascades.Goals as goal

pub loop-cascade-preserved : goal.loop-cascade-preserved
loop-cascade-preserved c = one_more (flat_map optional_byte) c.args.cascades.now c.loop-cascade.cascade-index [] c.loop-cascade-test.true c.loop-cascade.invariant c.in_ok-write_cascade.ensures.put
