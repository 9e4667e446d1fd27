use Rattle.std.proofs.Common.{length}
use Rattle.ogg_packets.proofs.KeptSteps.{whole_lies, whole_front}
use Rattle.ogg_packets.proofs.kept.KeptEntry.front.Goals as goal

pub piece_front-requires : goal.piece_front-requires
piece_front-requires c =
    let view = rw c.in-Whole.is at c.self.view_is in
    whole_lies (length c.args.bytes.now) _ _ _ _ view c.requires

pub returns-in-Whole : goal.returns-in-Whole
returns-in-Whole c =
    let view = rw c.in-Whole.is at c.self.view_is in
    whole_front c.args.bytes.now _ _ _ _ c.piece_front.result view c.piece_front.ensures

pub piece_front-requires-in-Marked : goal.piece_front-requires-in-Marked
piece_front-requires-in-Marked c =
    let view = rw c.in-Marked.is at c.self.view_is in
    whole_lies (length c.args.bytes.now) _ _ _ _ view c.requires

pub returns-in-Marked : goal.returns-in-Marked
returns-in-Marked c =
    let view = rw c.in-Marked.is at c.self.view_is in
    whole_front c.args.bytes.now _ _ _ _ c.piece_front-in-Marked.result view c.piece_front-in-Marked.ensures

pub piece_front-requires-in-Last : goal.piece_front-requires-in-Last
piece_front-requires-in-Last c =
    let view = rw c.in-Last.is at c.self.view_is in
    whole_lies (length c.args.bytes.now) _ _ _ _ view c.requires

pub returns-in-Last : goal.returns-in-Last
returns-in-Last c =
    let view = rw c.in-Last.is at c.self.view_is in
    whole_front c.args.bytes.now _ _ _ _ c.piece_front-in-Last.result view c.piece_front-in-Last.ensures
