-- What holds of the line of every film.
use Rattle.std.specs.Prelude.{◌≡◌, ℕ, ◌+◌, ◌*◌, ◌<◌, ◌≤◌, Bool, false, List, length, map, take, All, Some, Ok, slice_get, slice_index_or}
use Rattle.model_setup.specs.declared.setup.PacketHead.TheVariants as heads
use Rattle.model_setup.specs.AudioHead.{head_of}
use Rattle.model_setup.specs.HeaderPackets.{IsBlockSize}
use Rattle.model_synthesis.specs.Tables.{ConstantTables, AreTables}
use Rattle.model_synthesis.specs.Transform.{IsBlockValue}
use Rattle.model_line.specs.declared.item.Span.{Span}
use Rattle.model_line.specs.declared.item.Item.{Item}
use Rattle.model_line.specs.declared.item.Item.TheVariants as variants
use Rattle.model_line.specs.Acceptance.{FilmLink, film_of}
use Rattle.model_line.specs.PacketRows.{block_flags, rows_of, sized_links, block_packets}
use Rattle.model_line.specs.Decode.{LineItem, frame_count, gap_count}
use Rattle.model_line.specs.Lines.{link_line}
use Rattle.model_line.specs.Origins.{Origin, overlap_len, size_of, starts_from, line_origins, listed, line_of, frame_by}
use Rattle.model_line.specs.Blocks.{Values, len_of, frames_between, overlap, overlap_frame, left_half, right_half, Frame}
use Rattle.model_line.specs.Index.{Indexed, facts_of, Indexes}
use Rattle.model_block.specs.FilmBlocks.{block_in_link, film_block}
use Rattle.model_film.specs.FilmLines.{decoded_entries, film_line}
use Rattle.model_film.specs.Links.{IsLink}

-- ---- accepted films

-- Every link of an accepted film has what its blocks rest on.
abbrev pub LinksOfFilms : Type 0
LinksOfFilms = (bytes : List ℕ) (links : List FilmLink) → film_of bytes ≡ Ok links
    → All IsLink links

-- ---- blocks

-- The block of a packet has all channels of its link, and each has as many values as blocks of its
-- mode have.
abbrev pub BlocksAreWhole : Type 0
BlocksAreWhole = (tables : ConstantTables) (link : FilmLink) (bytes : List ℕ) (mode : ℕ)
    (previous next : Bool) → IsLink link
    → head_of (block_flags link.setup) bytes ≡ heads.Block mode previous next
    → let size = size_of link.ident.short link.ident.long
    (slice_index_or (block_flags link.setup) mode false) in
    let block = block_in_link tables link bytes in
    (length block ≡ link.ident.channels) × All (λ values. length values ≡ size) block

-- Under constants as every accepted file has them, all values of a film's blocks are within their
-- limit.
abbrev pub BlocksAreSmall : Type 0
BlocksAreSmall = (tables : ConstantTables) (links : List FilmLink) (k : ℕ) → AreTables tables
    → All IsLink links → All (All IsBlockValue) (film_block tables links k)

-- ---- the line from single halves

-- the frames and gaps of items, each frame from the right half of a block and the left half of the
-- next, which are blocks of the film
abbrev pub line_of_items : ConstantTables → List FilmLink → List Item → List (LineItem Frame)
line_of_items tables links items = line_of overlap (λ k. right_half (film_block tables links k))
    (λ k. left_half (film_block tables links k)) items

-- Items that list the origins of a film's line give, from single halves of its blocks, its line.
abbrev pub LineByItems : Type 0
LineByItems = (tables : ConstantTables) (links : List FilmLink) (items : List Item)
    → All IsLink links → listed items ≡ line_origins (sized_links links)
    → line_of_items tables links items ≡ film_line tables links

-- The same items count its frames and its gaps, and the start of each item is how many frames the
-- items before it give.
pub record Agrees (tables : ConstantTables) (links : List FilmLink) (items : List Item)
    : Type 0 where
  pub total : frame_count (listed items) ≡ frame_count (film_line tables links)
  pub gaps : gap_count (listed items) ≡ gap_count (film_line tables links)
  pub starts : (i : ℕ) → i < length items → slice_get (starts_from 0 items) i
      ≡ Some (frame_count (line_of_items tables links (take i items)))

abbrev pub CountsAgree : Type 0
CountsAgree = (tables : ConstantTables) (links : List FilmLink) (items : List Item)
    → All IsLink links → listed items ≡ line_origins (sized_links links)
    → Agrees tables links items

-- So do the facts of each link: they count the frames and the gaps of its line.
abbrev pub FactsAgree : Type 0
FactsAgree = (tables : ConstantTables) (number : ℕ) (link : FilmLink) → IsLink link
    → let own = link_line number frames_between (decoded_entries tables link) in
    ((facts_of number (rows_of link)).frames ≡ frame_count own)
    × ((facts_of number (rows_of link)).gaps ≡ gap_count own)

-- ---- the halves that spans need

-- A half of a block of a link: all channels of the link, each with half as many values as a block
-- has, within their limit.
pub record IsHalfOf (link : FilmLink) (half : Values) : Type 0 where
  pub some : 0 < link.ident.channels
  pub count : length half ≡ link.ident.channels
  pub size : IsBlockSize (2 * len_of half)
  pub sizes : All (λ values. length values ≡ len_of half) half
  pub small : All (All IsBlockValue) half

-- a span's two halves are of blocks of its link, and its frames are among those that they give
pub record SpanFits (tables : ConstantTables) (links : List FilmLink) (s : Span) : Type 0 where
  pub link : FilmLink
  pub there : slice_get links s.link ≡ Some link
  pub right : IsHalfOf link (right_half (film_block tables links s.block))
  pub left : IsHalfOf link (left_half (film_block tables links (s.block + 1)))
  pub within : s.to ≤ overlap_len (2 * len_of (right_half (film_block tables links s.block)))
      (2 * len_of (left_half (film_block tables links (s.block + 1))))

abbrev pub ItemFits : ConstantTables → List FilmLink → Item → Type 0
ItemFits tables links (variants.Span s) = SpanFits tables links s
ItemFits tables links (variants.Gap link kind) = Unit {0}

-- So it is with all spans of a film's index, under constants as every accepted file has them.
abbrev pub SpansFitHalves : Type 0
SpansFitHalves = (tables : ConstantTables) (links : List FilmLink) (index : Indexed)
    → AreTables tables → All IsLink links → Indexes (map rows_of links) index
    → All (ItemFits tables links) index.items

-- ---- the frame of an origin

-- the frame of this number between two blocks of a film, by their halves
abbrev pub frame_at : ConstantTables → List FilmLink → Origin → Frame
frame_at tables links p = overlap_frame (right_half (film_block tables links p.first))
    (left_half (film_block tables links p.second)) p.number

-- The line is what the items list, each origin standing for its frame.
abbrev pub LineByOrigins : Type 0
LineByOrigins = (tables : ConstantTables) (links : List FilmLink) (items : List Item)
    → All IsLink links → listed items ≡ line_origins (sized_links links)
    → film_line tables links ≡ map (frame_by (frame_at tables links)) (listed items)
