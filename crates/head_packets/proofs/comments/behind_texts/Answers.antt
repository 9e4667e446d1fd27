use Rattle.std.proofs.Common.{[], ◌∷◌, ◌++◌}
use Rattle.model_bits.specs.Bits.{bits_of}
use Rattle.model_bits.proofs.Times.{times_goes_on}
use Rattle.model_setup.specs.HeaderPackets.{text_at}
use Rattle.head_packets.proofs.comments.behind_texts.Goals as goal

pub loop-preserved : goal.loop-preserved
loop-preserved c =
    let before = c.loop.invariant.0 in
    let text = c.in_ok-_text._text.now in
    (before ++ text ∷ [], times_goes_on text_at before c.args.count c.loop.counter (bits_of c.loop.rest.now) _ c.loop.invariant.1 text (bits_of c.in_ok-_text.others.now) c.loop-test.true c.in_ok-_text.ensures)
