use Rattle.std.proofs.Common.{◌∙◌, sym, ap, arith}
use Rattle.std.specs.Cow.{cow_slice_items}
use Rattle.std.proofs.lemmas.Result.{IfOk-weaker}
use Rattle.model_line.specs.Blocks.{left_half, right_half}
use Rattle.block_decoding.specs.declared.channels.HalvedBlock.{HalvedBlock}
use Rattle.film_blocks.specs.Held.{link_in}
use Rattle.film_blocks.proofs.SetupProps.{setup_is_whole, setup_whole, sizes_are_right}
use Rattle.film_blocks.proofs.BlockPlaces.{block_is_at, place_is, places_there, entry_there, packet_there, never_lost, bytes_are}
use Rattle.film_blocks.proofs.LinkBlocks.{entry_in_place, block_of_bytes}
use Rattle.film_blocks.proofs.decoding.decode_in_link.Goals as goal

pub index-place-requires : goal.index-place-requires
index-place-requires c =
    let it = block_is_at 0 c.args.bytes.now c.args.link.now c.args.number c.requires.held c.requires.there in
    omega (arith, c.args.link.now.blocks.ok, places_there 0 c.args.bytes.now c.args.link.now c.args.number it)

pub index-entry-requires : goal.index-entry-requires
index-entry-requires c =
    let it = block_is_at 0 c.args.bytes.now c.args.link.now c.args.number c.requires.held c.requires.there in
    let lt = places_there 0 c.args.bytes.now c.args.link.now c.args.number it in
    let place = place_is c.args.link.now.blocks.items c.args.number c.index-place.result.now it.place lt c.index-place.ensures it.at in
    omega (arith, c.args.link.now.entries.ok, entry_there 0 c.args.bytes.now c.args.link.now c.args.number c.index-place.result.now it place)

pub bytes-requires : goal.bytes-requires
bytes-requires c =
    let it = block_is_at 0 c.args.bytes.now c.args.link.now c.args.number c.requires.held c.requires.there in
    let lt = places_there 0 c.args.bytes.now c.args.link.now c.args.number it in
    let place = place_is c.args.link.now.blocks.items c.args.number c.index-place.result.now it.place lt c.index-place.ensures it.at in
    let there = entry_there 0 c.args.bytes.now c.args.link.now c.args.number c.index-place.result.now it place in
    entry_in_place c.args.bytes.now c.args.link.now c.index-place.result.now c.index-entry.result.now c.requires.held there c.index-entry.ensures

pub unreachable-requires : goal.unreachable-requires
unreachable-requires c =
    let it = block_is_at 0 c.args.bytes.now c.args.link.now c.args.number c.requires.held c.requires.there in
    let lt = places_there 0 c.args.bytes.now c.args.link.now c.args.number it in
    let place = place_is c.args.link.now.blocks.items c.args.number c.index-place.result.now it.place lt c.index-place.ensures it.at in
    let packet = packet_there 0 c.args.bytes.now c.args.link.now c.args.number c.index-place.result.now c.index-entry.result.now it place c.index-entry.ensures in
    let none = rw c.in_default.is at c.in_ok-packet.ensures in
    never_lost 0 c.args.bytes.now c.args.link.now c.args.number it _ packet (sym none)

pub decode-requires-clause-setup : goal.decode-requires-clause-setup
decode-requires-clause-setup c =
    let link = link_in c.args.bytes.now c.args.link.now in
    rw c.requires.setup at (setup_is_whole c.args.link.now.channels link.setup c.requires.held.whole)

pub decode-requires-clause-sizes : goal.decode-requires-clause-sizes
decode-requires-clause-sizes c =
    let link = link_in c.args.bytes.now c.args.link.now in
    sizes_are_right link.ident c.args.link.now.sizes c.requires.held.short c.requires.held.long c.requires.held.playable

pub decode-requires-clause-block : goal.decode-requires-clause-block
decode-requires-clause-block c =
    let it = block_is_at 0 c.args.bytes.now c.args.link.now c.args.number c.requires.held c.requires.there in
    let lt = places_there 0 c.args.bytes.now c.args.link.now c.args.number it in
    let place = place_is c.args.link.now.blocks.items c.args.number c.index-place.result.now it.place lt c.index-place.ensures it.at in
    let packet = packet_there 0 c.args.bytes.now c.args.link.now c.args.number c.index-place.result.now c.index-entry.result.now it place c.index-entry.ensures in
    let found = rw c.in-Some.is at c.in_ok-packet.ensures in
    let same = c.as_slice.ensures.value ∙ bytes_are 0 c.args.bytes.now c.args.link.now c.args.number it (cow_slice_items c.in-Some.packet) _ packet found in
    rw (same, ← c.requires.setup) it.head

pub returns-clause-left : goal.returns-clause-left
returns-clause-left c = λ i.
    let it = block_is_at i c.args.bytes.now c.args.link.now c.args.number c.requires.held c.requires.there in
    let lt = places_there i c.args.bytes.now c.args.link.now c.args.number it in
    let place = place_is c.args.link.now.blocks.items c.args.number c.index-place.result.now it.place lt c.index-place.ensures it.at in
    let packet = packet_there i c.args.bytes.now c.args.link.now c.args.number c.index-place.result.now c.index-entry.result.now it place c.index-entry.ensures in
    let found = rw c.in-Some.is at c.in_ok-packet.ensures in
    let are = c.as_slice.ensures.value ∙ bytes_are i c.args.bytes.now c.args.link.now c.args.number it (cow_slice_items c.in-Some.packet) _ packet found in
    let same = block_of_bytes i c.args.bytes.now c.args.link.now c.args.number c.args.constants.now c.args.setup.now c.as_slice.result.now it c.requires.held c.requires.setup are in
    IfOk-weaker c.decode.result _ _ (λ (block : HalvedBlock) left. left ∙ ap left_half same) c.decode.ensures.left

pub returns-clause-right : goal.returns-clause-right
returns-clause-right c = λ i.
    let it = block_is_at i c.args.bytes.now c.args.link.now c.args.number c.requires.held c.requires.there in
    let lt = places_there i c.args.bytes.now c.args.link.now c.args.number it in
    let place = place_is c.args.link.now.blocks.items c.args.number c.index-place.result.now it.place lt c.index-place.ensures it.at in
    let packet = packet_there i c.args.bytes.now c.args.link.now c.args.number c.index-place.result.now c.index-entry.result.now it place c.index-entry.ensures in
    let found = rw c.in-Some.is at c.in_ok-packet.ensures in
    let are = c.as_slice.ensures.value ∙ bytes_are i c.args.bytes.now c.args.link.now c.args.number it (cow_slice_items c.in-Some.packet) _ packet found in
    let same = block_of_bytes i c.args.bytes.now c.args.link.now c.args.number c.args.constants.now c.args.setup.now c.as_slice.result.now it c.requires.held c.requires.setup are in
    IfOk-weaker c.decode.result _ _ (λ (block : HalvedBlock) right. right ∙ ap right_half same) c.decode.ensures.right

pub returns-clause-halves : goal.returns-clause-halves
returns-clause-halves c =
    let link = link_in c.args.bytes.now c.args.link.now in
    let whole = rw c.requires.setup at (setup_whole c.args.link.now.channels link.setup c.requires.held.whole) in
    IfOk-weaker c.decode.result _ _ (λ (block : HalvedBlock) halves. halves c.args.link.now.channels whole) c.decode.ensures.halves
