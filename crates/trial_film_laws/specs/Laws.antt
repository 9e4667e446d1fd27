-- What holds of made films.
use Rattle.std.specs.Prelude.{◌≡◌, ℕ, ◌*◌, ◌<◌, ◌≤◌, List, length, map, All, Ok}
use Rattle.model_ogg.specs.Writing.{HasPlaces}
use Rattle.model_setup.specs.AudioHead.{head_of, long_flags_of}
use Rattle.model_line.specs.Acceptance.{film_of}
use Rattle.model_line.specs.PacketRows.{block_packets}
use Rattle.model_trial.specs.declared.numbers.TheConstants.{MADE_PACKETS}
use Rattle.model_trial.specs.MadeSetup.{made_modes}
use Rattle.model_trial.specs.MadeFilm.{DrawnLink, made_links, drawn_links, made_pages, made_film}
use Rattle.model_trial.specs.FilmRead.{heads_behind, links_read}

-- a packet is a list of bytes, 4 to 63
pub record IsDrawnPacket (packet : List ℕ) : Type 0 where
  pub least : 4 ≤ length packet
  pub most : length packet < 64
  pub bytes : All (λ byte. byte < 256) packet

-- What is drawn for a link: as many modes as packets, each mode 0 or 1, and the packets decode to
-- blocks of these modes, whose window flags say what their neighbours are.
pub record IsDrawn (drawn : DrawnLink) : Type 0 where
  pub count : length drawn.modes ≡ MADE_PACKETS
  pub modes : All (λ mode. mode < 2) drawn.modes
  pub packets : All IsDrawnPacket drawn.packets
  pub heads : map (head_of (long_flags_of made_modes)) drawn.packets ≡ heads_behind 1 drawn.modes

-- The film of each number has these three links, and each is drawn so.
pub record AreDrawn (links : List DrawnLink) : Type 0 where
  pub made : map (λ drawn. drawn.link) links ≡ made_links
  pub drawn : All IsDrawn links

abbrev pub MadeLinksAreDrawn : Type 0
MadeLinksAreDrawn = (number : ℕ) → AreDrawn (drawn_links number)

-- The fields of its pages have places.
abbrev pub MadePagesHavePlaces : Type 0
MadePagesHavePlaces = (number : ℕ) → All HasPlaces (made_pages number)

-- It is accepted, and these are its links.
abbrev pub MadeFilmsAreAccepted : Type 0
MadeFilmsAreAccepted = (number : ℕ) → film_of (made_film number) ≡ Ok (links_read number)

-- All packets behind its headers are blocks.
abbrev pub MadePacketsAreBlocks : Type 0
MadePacketsAreBlocks =
    (number : ℕ) → length (block_packets (links_read number)) ≡ 3 * MADE_PACKETS
