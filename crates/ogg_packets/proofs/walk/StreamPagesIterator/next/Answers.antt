use Rattle.std.proofs.Common.{sym, ◌∙◌}
use Rattle.ogg_packets.proofs.StreamSteps.{stream_of-none}
use Rattle.ogg_packets.proofs.walk.StreamPagesIterator.next.Goals as goal

pub returns-clause-steps : goal.returns-clause-steps
returns-clause-steps c =
    let none = stream_of-none c.loop-page.self.serial c.loop-page.self.rest.now c.in_default.ensures.cases in
    (sym c.loop-page.invariant.same ∙ none, none)
