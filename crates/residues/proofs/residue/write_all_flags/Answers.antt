use Rattle.std.proofs.Common.{[]}
use Rattle.model_writing.specs.SetupWriting.{cascade_fields}
use Rattle.setup_fields.proofs.Puts.{one_more}
use Rattle.residues.proofs.residue.write_all_flags.Goals as goal

pub loop-cascade-preserved : goal.loop-cascade-preserved
loop-cascade-preserved c = one_more cascade_fields c.args.cascades.now c.loop-cascade.cascade-index [] c.loop-cascade-test.true c.loop-cascade.invariant c.in_ok-write_pass_flags.ensures.put
