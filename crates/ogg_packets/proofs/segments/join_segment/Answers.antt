use Rattle.ogg_packets.proofs.SegmentSteps.{packet_lies}
use Rattle.ogg_packets.proofs.segments.join_segment.Goals as goal

pub returns-in_ok-add-clause-lies : goal.returns-in_ok-add-clause-lies
returns-in_ok-add-clause-lies c = λ end fits lie. packet_lies end _ _ c.args.pending c.in_ok-pieces.pieces c.args.mark (rw c.in_ok-entry.ensures at c.in_ok-add.ensures.ok) (c.in_ok-pieces.ensures.lies end fits lie.pending) lie

pub returns-else-lace-lt255-clause-lies : goal.returns-else-lace-lt255-clause-lies
returns-else-lace-lt255-clause-lies c = λ end fits lie. record { entries = lie.entries; pending = c.in_ok-pieces.ensures.lies end fits lie.pending }
