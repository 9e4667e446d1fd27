use Rattle.std.proofs.Common.{◌∙◌, ℕ, length, sym, ap}
use Rattle.std.specs.Cow.{cow_slice_items}
use Rattle.std.proofs.lemmas.List.{drop-map}
use Rattle.std.proofs.lemmas.List.Elements.{All-drop}
use Rattle.ogg_packets.specs.Entries.{item_of, items_of, EntryLiesBefore}
use Rattle.model_line.specs.LinkTests.{first_packet}
use Rattle.film_blocks.proofs.FirstThree.{no_ident, no_comment, no_setup, all_there}
use Rattle.film_blocks.proofs.headers.header_packets.Goals as goal

pub returns-in_default : goal.returns-in_default
returns-in_default c =
    let none = rw c.in_default.is at c.in_ok-ident.ensures in
    sym (no_ident (items_of c.args.bytes.now c.args.entries.now) (sym none))

pub packet_bytes-requires-2 : goal.packet_bytes-requires-2
packet_bytes-requires-2 c = rw c.after.ensures (All-drop (EntryLiesBefore (length c.args.bytes.now)) 1 c.args.entries.now c.requires)

pub returns-in_default-2 : goal.returns-in_default-2
returns-in_default-2 c =
    let none = rw (c.in_default-2.is, c.after.ensures) at c.in_ok-comment.ensures in
    sym (no_comment (items_of c.args.bytes.now c.args.entries.now) (ap first_packet (drop-map (item_of c.args.bytes.now) 1 c.args.entries.now) ∙ sym none))

pub packet_bytes-requires-3 : goal.packet_bytes-requires-3
packet_bytes-requires-3 c = rw c.after-2.ensures (All-drop (EntryLiesBefore (length c.args.bytes.now)) 2 c.args.entries.now c.requires)

pub returns-in_default-3 : goal.returns-in_default-3
returns-in_default-3 c =
    let none = rw (c.in_default-3.is, c.after-2.ensures) at c.in_ok-setup.ensures in
    sym (no_setup (items_of c.args.bytes.now c.args.entries.now) (ap first_packet (drop-map (item_of c.args.bytes.now) 2 c.args.entries.now) ∙ sym none))

pub returns : goal.returns
returns c =
    let first = rw c.in-Some.is at c.in_ok-ident.ensures in
    let second = rw (c.in-Some-2.is, c.after.ensures) at c.in_ok-comment.ensures in
    let third = rw (c.in-Some-3.is, c.after-2.ensures) at c.in_ok-setup.ensures in
    let same = λ (n : ℕ). ap first_packet (drop-map (item_of c.args.bytes.now) n c.args.entries.now) in
    sym (all_there (items_of c.args.bytes.now c.args.entries.now) (cow_slice_items c.in-Some.ident) (cow_slice_items c.in-Some-2.comment) (cow_slice_items c.in-Some-3.setup) (sym first) (same 1 ∙ sym second) (same 2 ∙ sym third))
