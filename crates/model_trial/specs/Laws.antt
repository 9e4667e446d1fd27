-- What holds of the made inputs.
use Rattle.std.specs.Prelude.{◌≡◌, ℕ, [], Ok}
use Rattle.std.specs.List.{All}
use Rattle.model_bits.specs.Writing.{bits_of_fields}
use Rattle.model_setup.specs.HeaderPackets.{ident_of, comment_of}
use Rattle.model_setup.specs.SetupPacket.{setup_at, setup_of}
use Rattle.model_synthesis.specs.ConstantsFile.{constants_of}
use Rattle.model_writing.specs.SetupWriting.{setup_fields}
use Rattle.model_trial.specs.MadeConstants.{made_constants, made_tables}
use Rattle.model_trial.specs.MadeSetup.{made_setup}
use Rattle.model_trial.specs.MadeFilm.{MadeLink, made_links, ident_packet, comment_packet, setup_packet}
use Rattle.model_trial.specs.FilmRead.{ident_read}

-- The made constants are accepted, and these are their tables.
abbrev pub MadeConstantsAreAccepted : Type 0
MadeConstantsAreAccepted = constants_of made_constants ≡ Ok made_tables

-- the setup of so many channels is read from the bits in which it is written, up to the last
abbrev pub MadeSetupIsRead : ℕ → Type 0
MadeSetupIsRead channels =
    setup_at channels (bits_of_fields (setup_fields (made_setup channels)))
    ≡ Ok (made_setup channels, [])

-- The made setups of one channel and of two are read.
abbrev pub MadeSetupsAreRead : Type 0
MadeSetupsAreRead = MadeSetupIsRead 1 × MadeSetupIsRead 2

-- the header packets of a link of a made film are accepted, and say what the link has
pub record HeadersAreAccepted (link : MadeLink) : Type 0 where
  pub ident : ident_of (ident_packet link) ≡ Ok (ident_read link)
  pub comment : comment_of comment_packet ≡ Ok 0
  pub setup : setup_of link.channels (setup_packet link) ≡ Ok (made_setup link.channels)

-- The header packets of all links of a made film are accepted.
abbrev pub MadeHeadersAreAccepted : Type 0
MadeHeadersAreAccepted = All HeadersAreAccepted made_links
