use Rattle.std.proofs.Common.{Some, option_map, ap, ◌∙◌, arith}
use Rattle.std.proofs.lemmas.List.{length-map}
use Rattle.std.proofs.lemmas.Result.{IfOk-weaker}
use Rattle.model_setup.specs.SetupPacket.{SetupFields}
use Rattle.model_line.specs.Acceptance.{FilmLink}
use Rattle.film_blocks.specs.Held.{link_in}
use Rattle.film_blocks.proofs.HeldLinks.{link_at}
use Rattle.film_blocks.proofs.film.Film.setup.Goals as goal

pub returns-clause-setup : goal.returns-clause-setup
returns-clause-setup c =
    let bytes = c.self.inside.bytes.items in
    let held = c.self.inside.links.items in
    let there = rw (← c.self.view_is) at c.requires in
    let at = link_at bytes held c.args.link c.index-held.result.now (omega (arith, there, length-map held (link_in bytes))) c.index-held.ensures in
    let read = rw c.deref.ensures.value at c.read_setup.ensures.setup in
    rw (← c.self.view_is) (IfOk-weaker c.read_setup.result _ _ (λ (setup : SetupFields) is. ap (option_map (λ (l : FilmLink). l.setup)) at ∙ ap Some is) read)

pub returns-clause-whole : goal.returns-clause-whole
returns-clause-whole c = IfOk-weaker c.read_setup.result _ _ (λ (setup : SetupFields) whole. record { channels = c.index-held.result.now.channels; whole = whole }) c.read_setup.ensures.whole
