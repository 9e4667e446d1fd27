-- A link of a made film, and what is drawn for it, as the program holds them.
use Rattle.std.specs.Prelude.{◌≡◌, ℕ, ◌<◌, List, length, All}
use Rattle.model_trial.specs.declared.numbers.TheConstants.{MADE_PACKETS}
use Rattle.model_trial.specs.Draws.{Draw, give, ◌>>=◌, draws}
use Rattle.model_trial.specs.MadeFilm.{MadeLink, DrawnLink, drawn_body, with_head, packets_behind}
use Rattle.film_maker.specs.declared.links.MadeLink as held
use Rattle.film_maker.specs.declared.drawn.DrawnLink as drawn_held

-- the link
abbrev pub made_link_of : held.MadeLink → MadeLink
made_link_of link = record {
  channels = link.channels;
  rate = link.rate;
  serial = link.serial;
  lost_before = link.lost_before;
  cut = link.cut;
}

-- the link with what is drawn for it
abbrev pub drawn_link_of : drawn_held.DrawnLink → DrawnLink
drawn_link_of drawn = record {
  link = made_link_of drawn.link.now;
  modes = drawn.modes.items;
  packets = drawn.packets.items;
}

-- one lacing value says how long a packet is
abbrev pub IsShort : List ℕ → Type 0
IsShort packet = length packet < 255

-- as many modes and packets as there are to be, and no packet is long
pub record IsWhole (drawn : drawn_held.DrawnLink) : Type 0 where
  pub modes : length drawn.modes.items ≡ MADE_PACKETS
  pub packets : length drawn.packets.items ≡ MADE_PACKETS
  pub short : All IsShort drawn.packets.items

-- a packet of a mode between packets of two modes
abbrev pub drawn_packet : ℕ → ℕ → ℕ → Draw (List ℕ)
drawn_packet before mode after = do
  body ← drawn_body
  give (with_head before mode after body)

-- packets of these modes, behind one of a mode
abbrev pub drawn_packets : ℕ → List ℕ → Draw (List (List ℕ))
drawn_packets before modes = do
  bodies ← draws (length modes) drawn_body
  give (packets_behind before modes bodies)
