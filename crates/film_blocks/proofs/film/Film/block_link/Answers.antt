use Rattle.std.proofs.Common.{length, sym, ap, arith}
use Rattle.model_line.specs.PacketRows.{sized_links}
use Rattle.film_blocks.specs.Held.{links_in}
use Rattle.film_blocks.proofs.BlockLinks.{ends_rise, ends_len, found_link, link_within}
use Rattle.film_blocks.proofs.film.Film.block_link.Goals as goal

pub link_at-requires : goal.link_at-requires
link_at-requires c = rw (c.deref.ensures.value, c.self.invariant.ends_right) (ends_rise 0 (sized_links (links_in c.self.inside.bytes.items c.self.inside.links.items)))

pub overflow_cast-result : goal.overflow_cast-result
overflow_cast-result c =
    let bytes = c.self.inside.bytes.items in
    let held = c.self.inside.links.items in
    omega (arith, c.link_at.ensures.bound, c.self.invariant.few, ends_len bytes held, ap length c.deref.ensures.value, ap length c.self.invariant.ends_right)

pub returns-clause-value : goal.returns-clause-value
returns-clause-value c =
    let links = links_in c.self.inside.bytes.items c.self.inside.links.items in
    let there = rw (← c.self.view_is) at c.requires in
    let before = rw (c.deref.ensures.value, c.self.invariant.ends_right) at c.link_at.ensures.ends in
    rw (← c.self.view_is) (sym (found_link c.args.block c.link_at.result links before there))

pub returns-clause-within : goal.returns-clause-within
returns-clause-within c =
    let links = links_in c.self.inside.bytes.items c.self.inside.links.items in
    let there = rw (← c.self.view_is) at c.requires in
    let before = rw (c.deref.ensures.value, c.self.invariant.ends_right) at c.link_at.ensures.ends in
    rw (← c.self.view_is) (link_within c.args.block c.link_at.result links before there)
