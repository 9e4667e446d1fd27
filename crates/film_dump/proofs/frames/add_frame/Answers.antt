use Rattle.std.proofs.Common.{◌∙◌, sym, append-nil, get_or, pos, to_z, of_z, w64}
use Rattle.model_line.proofs.ChannelReads.{channel_read, value_of_one, read_back}
use Rattle.film_dump.proofs.FrameSteps.{frame_bytes-nil, sample_is, sample_step}
use Rattle.film_dump.proofs.frames.add_frame.Goals as goal

pub loop-channel-init : goal.loop-channel-init
loop-channel-init c = rw frame_bytes-nil (sym (append-nil c.args.waiting.now.items))

pub loop-channel-preserved : goal.loop-channel-preserved
loop-channel-preserved c =
    let first = channel_read _ _ _ _ c.requires.right c.loop-channel-test.true c.index-right-channel.is in
    let second = channel_read _ _ _ _ c.requires.left c.loop-channel-test.true c.index-left-channel.is in
    let value = value_of_one _ _ _ _ _ _ _ (rw (sym c.items-first.ensures) at first) (rw (sym c.items-second.ensures) at second) c.requires.number c.overlap.ensures.value in
    let bytes = c.to_le_bytes.ensures ∙ sample_is _ (to_z w64 (of_z w64 (get_or c.overlap.new.out 0 (pos 0)))) c.pcm.ensures in
    sample_step _ _ _ _ _ _ c.loop-channel.invariant (rw bytes at c.in_ok-extend_from_slice.ensures.items) (read_back _ _ (c.overlap.ensures.small 0) value)
