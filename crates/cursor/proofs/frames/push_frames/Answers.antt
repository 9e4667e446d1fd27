use Rattle.std.proofs.Common.{◌≤◌, arith}
use Rattle.cursor.proofs.FrameSteps.{number_step}
use Rattle.cursor.proofs.frames.push_frames.Goals as goal

pub loop-number-preserved : goal.loop-number-preserved
loop-number-preserved c =
    let le : c.args.portion.from ≤ c.loop-number.number = omega arith in
    number_step _ _ _ _ _ _ le c.loop-number.invariant (rw (c.items.ensures, c.items-in-loop-number.ensures) at c.in_ok-push_frame.ensures)
