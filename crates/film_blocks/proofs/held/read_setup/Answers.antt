use Rattle.std.proofs.Common.{length, sym, ap, ◌∙◌}
use Rattle.std.specs.Cow.{cow_slice_items}
use Rattle.std.proofs.lemmas.List.{drop-map}
use Rattle.std.proofs.lemmas.List.Elements.{All-drop}
use Rattle.ogg_packets.specs.Entries.{item_of, items_of, EntryLiesBefore}
use Rattle.model_line.specs.LinkTests.{first_packet}
use Rattle.film_blocks.proofs.HeldPieces.{entries_lie}
use Rattle.film_blocks.proofs.HeldSetup.{third_is_there, never_refused, setup_again}
use Rattle.film_blocks.proofs.held.read_setup.Goals as goal

pub packet_bytes-requires : goal.packet_bytes-requires
packet_bytes-requires c =
    let lie = entries_lie (length c.args.bytes.now) c.args.link.now.entries.items c.requires.lies in
    rw (c.after.ensures, c.deref.ensures.value) (All-drop (EntryLiesBefore (length c.args.bytes.now)) 2 c.args.link.now.entries.items lie)

pub unreachable-requires : goal.unreachable-requires
unreachable-requires c =
    let bytes = c.args.bytes.now in
    let es = c.args.link.now.entries.items in
    let none = rw (c.in_default.is, c.after.ensures, c.deref.ensures.value) at c.in_ok-packet.ensures in
    third_is_there c.args.link.now.channels (items_of bytes es) c.requires.setup (ap first_packet (drop-map (item_of bytes) 2 es) ∙ sym none)

pub returns-in-Ok-clause-setup : goal.returns-in-Ok-clause-setup
returns-in-Ok-clause-setup c =
    let bytes = c.args.bytes.now in
    let es = c.args.link.now.entries.items in
    let found = rw (c.in-Some.is, c.after.ensures, c.deref.ensures.value) at c.in_ok-packet.ensures in
    let read = rw c.as_slice.ensures.value at c.in-Ok.ensures.answers in
    setup_again c.args.link.now.counts (items_of bytes es) c.args.link.now.channels (cow_slice_items c.in-Some.packet) c.in-Ok.setup c.requires.channels c.requires.setup (ap first_packet (drop-map (item_of bytes) 2 es) ∙ sym found) read

pub unreachable-requires-in-Err-Bad : goal.unreachable-requires-in-Err-Bad
unreachable-requires-in-Err-Bad c =
    let bytes = c.args.bytes.now in
    let es = c.args.link.now.entries.items in
    let found = rw (c.in-Some.is, c.after.ensures, c.deref.ensures.value) at c.in_ok-packet.ensures in
    let refused = rw (c.in-Err-Bad.field-0-is, c.as_slice.ensures.value) at c.in-Err-Bad.ensures.answers in
    never_refused c.args.link.now.channels (items_of bytes es) (cow_slice_items c.in-Some.packet) _ c.requires.setup (ap first_packet (drop-map (item_of bytes) 2 es) ∙ sym found) (refused (λ e. cc))
