use Rattle.std.proofs.Common.{◌∙◌, length}
use Rattle.lap_window.proofs.Powers.{halves_are}
use Rattle.lap_window.proofs.tests.frame_between.Goals as goal

pub overlap-requires-clause-right_size : goal.overlap-requires-clause-right_size
overlap-requires-clause-right_size c =
    halves_are c.args.right (length c.deref.result.now) c.if-right-lt6.false c.if-right-gt13.false (c.deref.ensures.len ∙ c.in_ok-right_half.ensures.count)

pub overlap-requires-clause-left_size : goal.overlap-requires-clause-left_size
overlap-requires-clause-left_size c =
    halves_are c.args.left (length c.deref-2.result.now) c.if-left-lt6.false c.if-left-gt13.false (c.deref-2.ensures.len ∙ c.in_ok-left_half.ensures.count)
