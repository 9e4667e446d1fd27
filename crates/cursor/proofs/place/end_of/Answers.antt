use Rattle.std.proofs.Common.{arith, length, ap, ◌∙◌}
use Rattle.model_cursor.proofs.Counting.{length-starts}
use Rattle.cursor.proofs.Items.{next_at}
use Rattle.cursor.proofs.place.end_of.Goals as goal

pub overflow_add-item : goal.overflow_add-item
overflow_add-item c = omega (arith, c.starts.type_inv, ap length c.starts.ensures, length-starts 0 c.args.index.now.items, c.requires)

pub returns-clause-frames : goal.returns-clause-frames
returns-clause-frames c = c.start_at.ensures ∙ next_at _ _ _ _ c.starts.ensures c.total.ensures (omega arith)

pub returns-clause-fits : goal.returns-clause-fits
returns-clause-fits c = omega (arith, c.starts.type_inv, ap length c.starts.ensures, length-starts 0 c.args.index.now.items, c.requires)
