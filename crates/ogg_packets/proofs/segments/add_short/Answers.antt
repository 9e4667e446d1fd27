use Rattle.std.proofs.Common.{[], ◌∷◌, None}
use Rattle.ogg_packets.proofs.PieceLaws.{joined-one}
use Rattle.ogg_packets.proofs.SegmentSteps.{packet_ends}
use Rattle.ogg_packets.proofs.segments.add_short.Goals as goal

pub returns-clause-entries : goal.returns-clause-entries
returns-clause-entries c = λ bytes.
    packet_ends bytes c.args.entries.now.found.items _ c.args.place c.args.lace None None (record { place = c.args.place; len = c.args.lace } ∷ []) c.requires
    (joined-one bytes (record { place = c.args.place; len = c.args.lace })) (rw c.from.ensures at c.in_ok-add_whole.ensures.ok)
