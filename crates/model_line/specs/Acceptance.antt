-- The acceptance of a film: its links, or the first fault that refuses it.
--
-- The faults are looked for in this order:
-- 1. NoLink, where the film has no link at all (`film_links` of model_ogg);
-- 2. for each link in order TooManyLinks, where it is past the most that a film may have, or
-- NoVorbis, where it has no Vorbis stream (`film_links` too);
-- 3. for each link in order the tests of `link_tests`, from the first to the last:
-- TooManyPackets, HeadMissing, Ident, Channels, Comment, Setup.
use Rattle.std.specs.Prelude.{ℕ, ◌+◌, ◌-◌, Bool, true, false, List, [], ◌∷◌, length, drop, count_by, Option, Some, None, Result, Ok, Err}
use Rattle.std.specs.Option.{option_map_or}
use Rattle.std.specs.Result.{result_unwrap_or}
use Rattle.model_ogg.specs.declared.page.PageRef.{PageRef}
use Rattle.model_ogg.specs.declared.link.LinkFault.{LinkFault}
use Rattle.model_ogg.specs.declared.link.LinkPages.{LinkPages}
use Rattle.model_ogg.specs.Pages.{pages}
use Rattle.model_ogg.specs.Entries.{StreamItem, packet, lost, stream_items}
use Rattle.model_ogg.specs.Links.{film_links, played_pages}
use Rattle.model_setup.specs.declared.head.IdentFields.{IdentFields}
use Rattle.model_setup.specs.HeaderPackets.{ident_of}
use Rattle.model_setup.specs.SetupPacket.{SetupFields, setup_of}
use Rattle.model_line.specs.declared.row.TheConstants.{MOST_ENTRIES}
use Rattle.model_line.specs.declared.film.LinkCounts.{LinkCounts}
use Rattle.model_line.specs.declared.film.FilmFault.{FilmFault}
use Rattle.model_line.specs.LinkFaults.{of_links}
use Rattle.model_line.specs.LinkTests.{Headers, headers_of, too_many_packets, headers_missing, wrong_ident, too_many_channels, wrong_comment, wrong_setup}

-- ---- the order of a link's faults

-- the tests of a link's headers: its number, and its headers if all three are there
abbrev pub header_tests : ℕ → Option Headers → List (Option FilmFault)
header_tests number headers =
    headers_missing number headers
    ∷ wrong_ident number headers
    ∷ too_many_channels number headers
    ∷ wrong_comment number headers
    ∷ wrong_setup number headers
    ∷ []

-- the tests of a link: its number, how many entries may still come, and those of its stream
abbrev pub link_tests : ℕ → ℕ → List StreamItem → List (Option FilmFault)
link_tests number left items =
    too_many_packets left items ∷ header_tests number (headers_of items)

-- the first fault that is found
abbrev pub first_fault : List (Option FilmFault) → Option FilmFault
first_fault [] = None
first_fault (Some fault ∷ tests) = Some fault
first_fault (None ∷ tests) = first_fault tests

-- a value, unless a fault is found
abbrev pub unless : {A : Type 0} → Option FilmFault → A → Result A FilmFault
unless None value = Ok value
unless (Some fault) value = Err fault

-- ---- what a link is

abbrev pub is_packet : StreamItem → Bool
is_packet (packet bytes mark) = true
is_packet lost = false

-- the numbers of a link: its stream's serial number, pages and entries
abbrev pub counts_of : ℕ → List PageRef → List StreamItem → LinkCounts
counts_of serial stream items = record {
  serial = serial;
  pages = length stream;
  packets = count_by is_packet items;
  lost = length items - count_by is_packet items;
}

-- what stands for an identification or a setup where a test finds that there is none
abbrev pub no_fields : IdentFields
no_fields = record { channels = 0; rate = 0; short = 0; long = 0 }

abbrev pub no_setup : SetupFields
no_setup = record { books = []; floors = []; residues = []; mappings = []; modes = [] }

abbrev pub ident_by : Headers → IdentFields
ident_by headers = result_unwrap_or (ident_of headers.ident) no_fields

abbrev pub setup_by : Headers → SetupFields
setup_by headers = result_unwrap_or (setup_of (ident_by headers).channels headers.setup) no_setup

-- a link: the numbers of its stream, what its identification and its setup say, and its entries
-- after the three headers
pub record FilmLink : Type 0 where
  pub counts : LinkCounts
  pub ident : IdentFields
  pub setup : SetupFields
  pub entries : List StreamItem

-- the link with these numbers, whose stream has these entries
unfoldable pub link_with : LinkCounts → List StreamItem → FilmLink
link_with counts items = record {
  counts = counts;
  ident = option_map_or ident_by (headers_of items) no_fields;
  setup = option_map_or setup_by (headers_of items) no_setup;
  entries = drop 3 items;
}

-- the link of this number, where so many entries may still come, or its first fault
unfoldable pub link_of : ℕ → ℕ → ℕ → List PageRef → List StreamItem → Result FilmLink FilmFault
link_of number left serial stream items =
    unless (first_fault (link_tests number left items))
    (link_with (counts_of serial stream items) items)

-- ---- the links of a film, in order

-- a link before others, or the first fault
abbrev pub with_link : Result FilmLink FilmFault → Result (List FilmLink) FilmFault
    → Result (List FilmLink) FilmFault
with_link (Err fault) others = Err fault
with_link (Ok link) (Err fault) = Err fault
with_link (Ok link) (Ok others) = Ok (link ∷ others)

-- the links from one of this number on, where so many entries may still come
unfoldable pub links_of : List ℕ → List PageRef → ℕ → ℕ → List LinkPages
    → Result (List FilmLink) FilmFault
links_of bytes ps number left [] = Ok []
links_of bytes ps number left (link ∷ links) =
    let items = stream_items bytes (played_pages ps link) in
    with_link (link_of number left link.serial (played_pages ps link) items)
    (links_of bytes ps (number + 1) (left - length items) links)

-- by the links of the film's pages
abbrev pub film_by : List ℕ → List PageRef → Result (List LinkPages) LinkFault
    → Result (List FilmLink) FilmFault
film_by bytes ps (Ok links) = links_of bytes ps 0 MOST_ENTRIES links
film_by bytes ps (Err fault) = Err (of_links fault)

-- the links of a film that is accepted, or the first fault
unfoldable pub film_of : List ℕ → Result (List FilmLink) FilmFault
film_of bytes = film_by bytes (pages bytes 0) (film_links bytes (pages bytes 0))
