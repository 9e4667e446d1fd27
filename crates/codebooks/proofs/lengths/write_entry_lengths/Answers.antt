use Rattle.std.proofs.Common.{None}
use Rattle.model_writing.specs.SetupWriting.{entry_fields}
use Rattle.setup_fields.proofs.Puts.{item_places, one_more}
use Rattle.codebooks.proofs.lengths.write_entry_lengths.Goals as goal

pub write_entry_length-requires : goal.write_entry_length-requires
write_entry_length-requires c = item_places (entry_fields c.args.sparse) c.args.lengths.now c.loop-len.len-index None c.loop-len-test.true c.requires

pub loop-len-preserved : goal.loop-len-preserved
loop-len-preserved c = one_more (entry_fields c.args.sparse) c.args.lengths.now c.loop-len.len-index None c.loop-len-test.true c.loop-len.invariant c.in_ok-write_entry_length.ensures.put
