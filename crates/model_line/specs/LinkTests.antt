-- The tests of a link, each by itself: the fault that it finds, if it finds one. The order of the
-- tests stands in Acceptance.
use Rattle.std.specs.Prelude.{ℕ, nat_lt, if◌then◌else◌, List, [], ◌∷◌, length, drop, Option, Some, None, option_and_then, Result, Ok, Err}
use Rattle.model_ogg.specs.Entries.{StreamItem, packet, lost}
use Rattle.model_setup.specs.declared.head.IdentFields.{IdentFields}
use Rattle.model_setup.specs.declared.head.IdentCause.{IdentCause}
use Rattle.model_setup.specs.declared.head.CommentCause.{CommentCause}
use Rattle.model_setup.specs.declared.setup.SetupFault.{SetupFault}
use Rattle.model_setup.specs.HeaderPackets.{ident_of, comment_of}
use Rattle.model_setup.specs.SetupPacket.{SetupFields, setup_of}
use Rattle.model_line.specs.declared.film.TheConstants.{MOST_CHANNELS}
use Rattle.model_line.specs.declared.film.FilmFault.{FilmFault}
use Rattle.model_line.specs.declared.film.FilmFault.TheVariants as faults
use Rattle.model_line.specs.LinkFaults.{of_setup}

-- ---- the headers of a stream

-- the bytes of the three header packets (Vorbis I, section 4.2)
pub record Headers : Type 0 where
  pub ident : List ℕ
  pub comment : List ℕ
  pub setup : List ℕ

-- the first entry's bytes, if it is a packet
abbrev pub first_packet : List StreamItem → Option (List ℕ)
first_packet [] = None
first_packet (packet bytes mark ∷ items) = Some bytes
first_packet (lost ∷ items) = None

-- three packets, where all are there
abbrev pub three_packets : Option (List ℕ) → Option (List ℕ) → Option (List ℕ) → Option Headers
three_packets (Some ident) (Some comment) (Some setup) =
    Some (record { ident = ident; comment = comment; setup = setup })
three_packets (Some ident) (Some comment) None = None
three_packets (Some ident) None setup = None
three_packets None comment setup = None

-- the headers of a stream: its first three entries, if all of them are packets
unfoldable pub headers_of : List StreamItem → Option Headers
headers_of items = three_packets (first_packet items) (first_packet (drop 1 items))
    (first_packet (drop 2 items))

-- ---- the tests

-- there are more entries than may still come
abbrev pub too_many_packets : ℕ → List StreamItem → Option FilmFault
too_many_packets left items =
    if nat_lt left (length items) then Some faults.TooManyPackets else None

-- a header is missing
abbrev pub headers_missing : ℕ → Option Headers → Option FilmFault
headers_missing number None = Some (faults.HeadMissing number)
headers_missing number (Some headers) = None

abbrev pub ident_fault : ℕ → Result IdentFields IdentCause → Option FilmFault
ident_fault number (Ok fields) = None
ident_fault number (Err cause) = Some (faults.Ident number cause)

-- the first header is no identification
abbrev pub wrong_ident : ℕ → Option Headers → Option FilmFault
wrong_ident number headers =
    option_and_then (λ (h : Headers). ident_fault number (ident_of h.ident)) headers

abbrev pub channels_fault : ℕ → Result IdentFields IdentCause → Option FilmFault
channels_fault number (Ok fields) =
    if nat_lt MOST_CHANNELS fields.channels then Some (faults.Channels number fields.channels)
    else None
channels_fault number (Err cause) = None

-- the identification has more channels than a link may have
abbrev pub too_many_channels : ℕ → Option Headers → Option FilmFault
too_many_channels number headers =
    option_and_then (λ (h : Headers). channels_fault number (ident_of h.ident)) headers

abbrev pub comment_fault : ℕ → Result ℕ CommentCause → Option FilmFault
comment_fault number (Ok texts) = None
comment_fault number (Err cause) = Some (faults.Comment number cause)

-- the second header is no comment
abbrev pub wrong_comment : ℕ → Option Headers → Option FilmFault
wrong_comment number headers =
    option_and_then (λ (h : Headers). comment_fault number (comment_of h.comment)) headers

abbrev pub setup_fault : ℕ → Result SetupFields SetupFault → Option FilmFault
setup_fault number (Ok setup) = None
setup_fault number (Err fault) = Some (of_setup number fault)

-- by the channels of the identification
abbrev pub setup_fault_by : ℕ → List ℕ → Result IdentFields IdentCause → Option FilmFault
setup_fault_by number setup (Ok fields) = setup_fault number (setup_of fields.channels setup)
setup_fault_by number setup (Err cause) = None

-- the third header is no setup of a link of so many channels
abbrev pub wrong_setup : ℕ → Option Headers → Option FilmFault
wrong_setup number headers =
    option_and_then (λ (h : Headers). setup_fault_by number h.setup (ident_of h.ident)) headers
