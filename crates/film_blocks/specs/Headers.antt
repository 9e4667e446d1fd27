-- What the headers of a link say.
use Rattle.std.specs.Prelude.{ℕ, ◌≤◌, List, Option, Result}
use Rattle.std.specs.Cow.{cow_slice_items}
use Rattle.std.specs.Option.{option_map_or}
use Rattle.model_ogg.specs.Entries.{StreamItem}
use Rattle.model_setup.specs.declared.head.IdentFields.{IdentFields}
use Rattle.model_setup.specs.HeaderPackets.{IsPlayable}
use Rattle.model_setup.specs.SetupPacket.{SetupFields, IsSetup}
use Rattle.model_line.specs.declared.film.TheConstants.{MOST_CHANNELS}
use Rattle.model_line.specs.declared.film.FilmFault.{FilmFault}
use Rattle.model_line.specs.LinkTests.{Headers, headers_of}
use Rattle.model_line.specs.Acceptance.{header_tests, first_fault, unless, no_fields, no_setup, ident_by, setup_by}
use Rattle.film_blocks.specs.declared.headers.HeaderPackets.{HeaderPackets}
use Rattle.film_blocks.specs.declared.headers.Heads.{Heads}

-- the bytes of the program's header packets
abbrev pub packets_in : HeaderPackets → Headers
packets_in packets = record {
  ident = cow_slice_items packets.ident;
  comment = cow_slice_items packets.comment;
  setup = cow_slice_items packets.setup;
}

-- what the identification and the setup of these headers say
abbrev pub said_by : Option Headers → IdentFields × SetupFields
said_by headers =
    (option_map_or ident_by headers no_fields, option_map_or setup_by headers no_setup)

-- that, or the first fault of the headers
abbrev pub heads_by : ℕ → Option Headers → Result (IdentFields × SetupFields) FilmFault
heads_by number headers = unless (first_fault (header_tests number headers)) (said_by headers)

-- of the link of this number, whose stream has these entries
abbrev pub heads_of : ℕ → List StreamItem → Result (IdentFields × SetupFields) FilmFault
heads_of number items = heads_by number (headers_of items)

-- what holds of heads that are accepted
pub record FitHeads (heads : Heads) : Type 0 where
  pub playable : IsPlayable heads.ident
  pub few : heads.ident.channels ≤ MOST_CHANNELS
  pub setup : IsSetup heads.ident.channels heads.setup
