use Rattle.std.proofs.Common.{arith}
use Rattle.cursor.proofs.MixSteps.{frame_mixed, frames_end}
use Rattle.cursor.proofs.mix.mix.Goals as goal

pub loop-number-preserved : goal.loop-number-preserved
loop-number-preserved c = frame_mixed _ _ _ _ _ _ _ _ _ _ _ (omega (arith, c.count-number-end.ensures, c.loop-number-test.true)) c.requires c.frame-before.ensures c.frame-after.ensures c.weight-weight.ensures.value c.in_ok-push_mixed.ensures c.loop-number.invariant

pub returns : goal.returns
returns c = frames_end _ _ _ _ _ _ _ (omega (arith, c.count-number-end.ensures, c.loop-number-test.false)) c.loop-number.invariant
