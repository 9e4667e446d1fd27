use Rattle.std.proofs.Common.{refl, ap, ◌∙◌}
use Rattle.film_maker.specs.Drawn.{made_link_of, drawn_packets}
use Rattle.film_maker.proofs.Packets.{link_drawn}
use Rattle.film_maker.proofs.drawn.draw_link.Goals as goal

pub returns-clause-drawn : goal.returns-clause-drawn
returns-clause-drawn c =
    link_drawn (made_link_of c.args.link.now) 1300 c.in_ok-modes.modes.items c.in_ok-packets.packets.items c.args.numbers.now c.draw_bytes.new.numbers c.draw_packets.new.numbers refl
    c.in_ok-modes.ensures.drawn c.in_ok-modes.ensures.count
    (c.in_ok-packets.ensures.drawn ∙ ap (λ ms. drawn_packets 1 ms c.draw_bytes.new.numbers) c.deref.ensures.value)
