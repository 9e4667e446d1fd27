use Rattle.std.proofs.Common.{arith}
use Rattle.std.proofs.lemmas.List.{length-map}
use Rattle.film_blocks.specs.Held.{link_in}
use Rattle.film_blocks.proofs.HeldLinks.{counts_at}
use Rattle.film_blocks.proofs.film.Film.counts.Goals as goal

pub returns : goal.returns
returns c =
    let bytes = c.self.inside.bytes.items in
    let held = c.self.inside.links.items in
    let there = rw (← c.self.view_is) at c.requires in
    rw (← c.self.view_is) (counts_at bytes held c.args.link c.index.result.now (omega (arith, there, length-map held (link_in bytes))) c.index.ensures)
