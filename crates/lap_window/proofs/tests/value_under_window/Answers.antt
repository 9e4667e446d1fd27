use Rattle.std.proofs.Common.{◌∙◌, length}
use Rattle.lap_window.proofs.Powers.{sizes_in_order}
use Rattle.lap_window.proofs.tests.value_under_window.Goals as goal

pub window-requires-clause-if_long : goal.window-requires-clause-if_long
window-requires-clause-if_long c =
    sizes_in_order c.args.shape.long c.args.shape.short c.args.shape.size (length c.deref_mut.result.now) c.if-short-size.false c.if-size-gt13.false (c.deref_mut.ensures.len ∙ c.in_ok-block.ensures.count)
