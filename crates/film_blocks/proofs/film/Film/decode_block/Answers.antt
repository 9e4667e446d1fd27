use Rattle.std.proofs.Common.{◌∙◌, ℕ, sym, ap, subst, arith}
use Rattle.std.proofs.lemmas.Result.{IfOk-weaker}
use Rattle.model_line.specs.Blocks.{left_half, right_half}
use Rattle.model_line.specs.PacketRows.{sized_links}
use Rattle.block_decoding.specs.Shapes.{IsHalved}
use Rattle.block_decoding.specs.declared.channels.HalvedBlock.{HalvedBlock}
use Rattle.film_blocks.specs.Held.{link_in, links_in}
use Rattle.film_blocks.proofs.BlockLinks.{ends_rise, block_is, first_within}
use Rattle.film_blocks.proofs.FilmBlock.{IsInLink, link_there, block_there, held_there, setup_there, channels_there, few_there}
use Rattle.film_blocks.proofs.film.Film.decode_block.Goals as goal

pub link_at-link-requires : goal.link_at-link-requires
link_at-link-requires c = rw (c.deref.ensures.value, c.self.invariant.ends_right) (ends_rise 0 (sized_links (links_in c.self.inside.bytes.items c.self.inside.links.items)))

pub overflow_sub-number : goal.overflow_sub-number
overflow_sub-number c =
    let links = links_in c.self.inside.bytes.items c.self.inside.links.items in
    let there = rw (← c.self.view_is) at c.requires.block in
    let before = rw (c.deref.ensures.value, c.self.invariant.ends_right) at c.link_at-link.ensures.ends in
    let first = rw (c.deref-2.ensures.value, c.self.invariant.ends_right) at c.first_block.ensures in
    omega (arith, first, first_within c.args.block c.link_at-link.result links before there)

pub index-requires : goal.index-requires
index-requires c =
    let bytes = c.self.inside.bytes.items in
    let held = c.self.inside.links.items in
    let there = rw (← c.self.view_is) at c.requires.block in
    let before = rw (c.deref.ensures.value, c.self.invariant.ends_right) at c.link_at-link.ensures.ends in
    omega (arith, c.self.inside.links.ok, link_there bytes held c.args.block c.link_at-link.result (record { ends = before; there = there }))

pub decode_in_link-requires-clause-held : goal.decode_in_link-requires-clause-held
decode_in_link-requires-clause-held c =
    let bytes = c.self.inside.bytes.items in
    let held = c.self.inside.links.items in
    let there = rw (← c.self.view_is) at c.requires.block in
    let before = rw (c.deref.ensures.value, c.self.invariant.ends_right) at c.link_at-link.ensures.ends in
    let it : IsInLink bytes held c.args.block c.link_at-link.result = record { ends = before; there = there } in
    rw c.deref-3.ensures.value (held_there bytes held c.args.block c.link_at-link.result c.index.result.now it c.index.ensures c.self.invariant.held_right)

pub decode_in_link-requires-clause-setup : goal.decode_in_link-requires-clause-setup
decode_in_link-requires-clause-setup c =
    let bytes = c.self.inside.bytes.items in
    let held = c.self.inside.links.items in
    let there = rw (← c.self.view_is) at c.requires.block in
    let said = rw (← c.self.view_is) at c.requires.setup in
    let before = rw (c.deref.ensures.value, c.self.invariant.ends_right) at c.link_at-link.ensures.ends in
    let it : IsInLink bytes held c.args.block c.link_at-link.result = record { ends = before; there = there } in
    rw c.deref-3.ensures.value (setup_there bytes held c.args.block c.link_at-link.result c.index.result.now c.args.setup.now it c.index.ensures said)

pub decode_in_link-requires-clause-there : goal.decode_in_link-requires-clause-there
decode_in_link-requires-clause-there c =
    let bytes = c.self.inside.bytes.items in
    let held = c.self.inside.links.items in
    let there = rw (← c.self.view_is) at c.requires.block in
    let before = rw (c.deref.ensures.value, c.self.invariant.ends_right) at c.link_at-link.ensures.ends in
    let it : IsInLink bytes held c.args.block c.link_at-link.result = record { ends = before; there = there } in
    let first = rw (c.deref-2.ensures.value, c.self.invariant.ends_right) at c.first_block.ensures in
    rw (first, c.deref-3.ensures.value) (few_there bytes held c.args.block c.link_at-link.result c.index.result.now it c.index.ensures)

pub returns-clause-left : goal.returns-clause-left
returns-clause-left c =
    let bytes = c.self.inside.bytes.items in
    let held = c.self.inside.links.items in
    let count = c.link_at-link.result in
    let there = rw (← c.self.view_is) at c.requires.block in
    let before = rw (c.deref.ensures.value, c.self.invariant.ends_right) at c.link_at-link.ensures.ends in
    let it : IsInLink bytes held c.args.block count = record { ends = before; there = there } in
    let first = rw (c.deref-2.ensures.value, c.self.invariant.ends_right) at c.first_block.ensures in
    let left = rw (c.deref-3.ensures.value, first) at (c.decode_in_link.ensures.left count) in
    let same = block_is c.args.constants.now c.args.block count (links_in bytes held) (link_in bytes c.index.result.now) (block_there bytes held c.args.block count c.index.result.now it c.index.ensures) in
    rw (← c.self.view_is) (IfOk-weaker c.decode_in_link.result _ _ (λ (halves : HalvedBlock) is. is ∙ ap left_half (sym same)) left)

pub returns-clause-right : goal.returns-clause-right
returns-clause-right c =
    let bytes = c.self.inside.bytes.items in
    let held = c.self.inside.links.items in
    let count = c.link_at-link.result in
    let there = rw (← c.self.view_is) at c.requires.block in
    let before = rw (c.deref.ensures.value, c.self.invariant.ends_right) at c.link_at-link.ensures.ends in
    let it : IsInLink bytes held c.args.block count = record { ends = before; there = there } in
    let first = rw (c.deref-2.ensures.value, c.self.invariant.ends_right) at c.first_block.ensures in
    let right = rw (c.deref-3.ensures.value, first) at (c.decode_in_link.ensures.right count) in
    let same = block_is c.args.constants.now c.args.block count (links_in bytes held) (link_in bytes c.index.result.now) (block_there bytes held c.args.block count c.index.result.now it c.index.ensures) in
    rw (← c.self.view_is) (IfOk-weaker c.decode_in_link.result _ _ (λ (halves : HalvedBlock) is. is ∙ ap right_half (sym same)) right)

pub returns-clause-halves : goal.returns-clause-halves
returns-clause-halves c =
    let bytes = c.self.inside.bytes.items in
    let held = c.self.inside.links.items in
    let count = c.link_at-link.result in
    let there = rw (← c.self.view_is) at c.requires.block in
    let before = rw (c.deref.ensures.value, c.self.invariant.ends_right) at c.link_at-link.ensures.ends in
    let it : IsInLink bytes held c.args.block count = record { ends = before; there = there } in
    let channels = channels_there bytes held c.args.block count c.index.result.now it c.index.ensures c.self.invariant.held_right in
    rw (← c.self.view_is) (IfOk-weaker c.decode_in_link.result _ _ (λ (halves : HalvedBlock) are. subst (λ (n : ℕ). IsHalved n halves) (sym channels) are) c.decode_in_link.ensures.halves)
