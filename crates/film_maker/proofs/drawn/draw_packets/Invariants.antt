use Rattle.std.proofs.Common.{◌≡◌, ◌+◌, ◌<◌, length}
use Rattle.std.specs.List.{All}
use Rattle.film_maker.specs.Drawn.{drawn_packets, IsShort}
use Rattle.film_maker.proofs.Packets.{with_others}
use Rattle.film_maker.proofs.drawn.draw_packets.Given as goal

abbrev pub invariant-loop-mode : goal.invariant-loop-mode
invariant-loop-mode l = record {
  drawn : with_others l.packets.items l.before l.rest l.numbers ≡ drawn_packets 1 l.modes l.fn.numbers;
  many : length l.packets.items + length l.rest ≡ length l.modes;
  short : All IsShort l.packets.items;
  before : l.before < 2;
  modes : All (λ mode. mode < 2) l.rest;
}

abbrev pub decreases-loop-mode : goal.decreases-loop-mode
decreases-loop-mode l = length l.rest
