use Rattle.std.proofs.Common.{sym}
use Rattle.model_line.proofs.ChannelReads.{channel_read, value_of_one, read_back}
use Rattle.cursor.proofs.FrameSteps.{channel_step}
use Rattle.cursor.proofs.frames.push_frame.Goals as goal

pub loop-channel-preserved : goal.loop-channel-preserved
loop-channel-preserved c =
    let first = channel_read _ _ _ _ c.requires.right c.loop-channel-test.true c.index-right-channel.is in
    let second = channel_read _ _ _ _ c.requires.left c.loop-channel-test.true c.index-left-channel.is in
    channel_step _ _ _ _ _ _ c.loop-channel.invariant c.in_ok-push.ensures.items (read_back _ _ (c.overlap.ensures.small 0) (value_of_one _ _ _ _ _ _ _ (rw (sym c.items-first.ensures) at first) (rw (sym c.items-second.ensures) at second) c.requires.number c.overlap.ensures.value))
