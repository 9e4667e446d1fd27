use Rattle.std.proofs.Common.{◌∙◌, arith}
use Rattle.model_line.proofs.BlockPackets.{links_behind}
use Rattle.film_blocks.specs.Held.{links_in}
use Rattle.film_blocks.proofs.film.Film.blocks.Goals as goal

pub returns : goal.returns
returns c = rw (← c.self.view_is) (c.blocks-2.ensures ∙ c.self.invariant.blocks ∙ omega (arith, links_behind 0 0 (links_in c.self.inside.bytes.items c.self.inside.links.items)))
