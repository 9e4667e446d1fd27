use Rattle.std.proofs.Common.{length}
use Rattle.std.specs.Cow.{cow_slice_items}
use Rattle.ogg_packets.proofs.KeptSteps.{whole_lies, whole_bytes}
use Rattle.ogg_packets.proofs.kept.KeptEntry.bytes.Goals as goal

pub lent-requires : goal.lent-requires
lent-requires c =
    let view = rw c.in-Whole.is at c.self.view_is in
    whole_lies (length c.args.bytes.now) _ _ _ _ view c.requires

pub returns-in-Whole : goal.returns-in-Whole
returns-in-Whole c =
    let view = rw c.in-Whole.is at c.self.view_is in
    whole_bytes c.args.bytes.now _ _ _ _ (cow_slice_items c.lent.result) view c.lent.ensures

pub lent-requires-in-Marked : goal.lent-requires-in-Marked
lent-requires-in-Marked c =
    let view = rw c.in-Marked.is at c.self.view_is in
    whole_lies (length c.args.bytes.now) _ _ _ _ view c.requires

pub returns-in-Marked : goal.returns-in-Marked
returns-in-Marked c =
    let view = rw c.in-Marked.is at c.self.view_is in
    whole_bytes c.args.bytes.now _ _ _ _ (cow_slice_items c.lent-in-Marked.result) view c.lent-in-Marked.ensures

pub lent-requires-in-Last : goal.lent-requires-in-Last
lent-requires-in-Last c =
    let view = rw c.in-Last.is at c.self.view_is in
    whole_lies (length c.args.bytes.now) _ _ _ _ view c.requires

pub returns-in-Last : goal.returns-in-Last
returns-in-Last c =
    let view = rw c.in-Last.is at c.self.view_is in
    whole_bytes c.args.bytes.now _ _ _ _ (cow_slice_items c.lent-in-Last.result) view c.lent-in-Last.ensures
