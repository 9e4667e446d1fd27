-- What holds of every line and of every index.
use Rattle.std.specs.Prelude.{◌≡◌, ℕ, ◌+◌, ◌-◌, ◌≤◌, Bool, true, false, nat_lt, if◌then◌else◌, [], ◌∷◌, List, None, All, map, length, sum_by, count_by}
use Rattle.std.specs.List.{AllPairs}
use Rattle.std.specs.List.Sorted.{IsNonDecreasing}
use Rattle.model_line.specs.declared.row.LinkRows.{LinkRows}
use Rattle.model_line.specs.declared.row.Row.{Row}
use Rattle.model_line.specs.declared.row.RowKind.{RowKind}
use Rattle.model_line.specs.declared.row.RowKind.TheVariants.{Lost, Bad, Skip, Block}
use Rattle.model_line.specs.declared.item.Item.{Item}
use Rattle.model_line.specs.declared.item.Item.TheVariants as variants
use Rattle.model_line.specs.Decode.{LinkEntry, linear_decode, frame_count, gap_count}
use Rattle.model_line.specs.Trim.{NeverMeet}
use Rattle.model_line.specs.Lines.{link_cuts, link_line, line}
use Rattle.model_line.specs.Origins.{overlap_len, frame_numbers, entries_of, line_origins, starts_from, listed, line_of, number_behind, HasFrame, IsBefore, HaveStarts}
use Rattle.model_line.specs.Halves.{sizes_of, AreFilmBlocks, OfFilmBlocks}
use Rattle.model_line.specs.Index.{Indexed, facts_of, Indexes}
use Rattle.model_line.specs.Acceptance.{FilmLink}
use Rattle.model_line.specs.PacketRows.{rows_of, block_packets}
use Rattle.model_line.specs.Blocks.{Values, len_of, frames_between, overlap, left_half, right_half, IsEven, block_at}

-- ---- the trims

-- The cuts at the front and at the end of a link never meet, and end within it.
abbrev pub CutsApart : Type 0
CutsApart = (link : ℕ) (es : List (LinkEntry ℕ)) → NeverMeet (link_cuts frame_numbers es)
    × ((link_cuts frame_numbers es).end.to ≤ frame_count (linear_decode link frame_numbers None es))

-- No gap goes.
abbrev pub GapsStay : Type 0
GapsStay = (link : ℕ) (es : List (LinkEntry ℕ))
    → gap_count (link_line link frame_numbers es)
    ≡ gap_count (linear_decode link frame_numbers None es)

-- As many frames go as the two cuts have.
abbrev pub FramesGo : Type 0
FramesGo = (link : ℕ) (es : List (LinkEntry ℕ)) → let cuts = link_cuts frame_numbers es in
    frame_count (link_line link frame_numbers es) + cuts.front + (cuts.end.to - cuts.end.from)
    ≡ frame_count (linear_decode link frame_numbers None es)

-- ---- what the numbers of an index are

-- The starts of items never fall.
abbrev pub StartsNeverFall : Type 0
StartsNeverFall = (xs : List Item) → IsNonDecreasing (starts_from 0 xs)

-- how many frames an item has
abbrev pub item_len : Item → ℕ
item_len (variants.Span s) = s.to - s.from
item_len (variants.Gap link kind) = 0

-- All spans of an index together have as many frames as the line.
abbrev pub SpansAddUp : Type 0
SpansAddUp = (links : List LinkRows) (index : Indexed) → Indexes links index
    → sum_by item_len index.items ≡ frame_count (line_origins (map entries_of links))

-- an entry is a loss or a bad packet
abbrev pub is_missing : RowKind → Bool
is_missing Lost = true
is_missing Bad = true
is_missing Skip = false
is_missing (Block is_long) = false

abbrev pub missing_count : LinkRows → ℕ
missing_count link = count_by (λ (row : Row). is_missing row.kind) link.rows

abbrev pub is_gap : Item → Bool
is_gap (variants.Span s) = false
is_gap (variants.Gap link kind) = true

-- A link has as many gaps as losses and bad packets after its headers, and so has an index.
abbrev pub GapsAreMissing : Type 0
GapsAreMissing = ((number : ℕ) (link : LinkRows)
    → (facts_of number link).gaps ≡ missing_count link)
    × ((links : List LinkRows) (index : Indexed) → Indexes links index
    → count_by is_gap index.items ≡ sum_by missing_count links)

-- ---- where spans lie

-- a span lies within the frames that its two blocks give
abbrev pub FitsBlocks : (ℕ → ℕ) → Item → Type 0
FitsBlocks sizes (variants.Span s) = s.to ≤ overlap_len (sizes s.block) (sizes (s.block + 1))
FitsBlocks sizes (variants.Gap link kind) = Unit {0}

-- Items that list the origins of a line lie within the frames of their blocks, of which block k has
-- the size `sizes k`.
abbrev pub SpansFit : Type 0
SpansFit = (links : List (List (LinkEntry ℕ))) (sizes : ℕ → ℕ) (xs : List Item)
    → AreFilmBlocks sizes 0 links → listed xs ≡ line_origins links → All HasFrame xs
    → All (FitsBlocks sizes) xs

-- the link of a block, where the links from this number on begin with the block of that number
unfoldable pub block_link : ℕ → ℕ → List (List (LinkEntry ℕ)) → ℕ → ℕ
block_link number n [] block = number
block_link number n (es ∷ links) block = if nat_lt block (number_behind n es) then number
    else block_link (number + 1) (number_behind n es) links block

-- both blocks of a span are of its link
abbrev pub IsOfLink : (ℕ → ℕ) → Item → Type 0
IsOfLink link_of (variants.Span s) =
    (link_of s.block ≡ s.link) × (link_of (s.block + 1) ≡ s.link)
IsOfLink link_of (variants.Gap link kind) = Unit {0}

-- Items that list the origins of a line lie between blocks of their links.
abbrev pub SpansOfLinks : Type 0
SpansOfLinks = (links : List (List (LinkEntry ℕ))) (xs : List Item)
    → listed xs ≡ line_origins links → All HasFrame xs → All (IsOfLink (block_link 0 0 links)) xs

-- No two indexes of a film have other items: what they list, that each span has a frame and a later
-- block than those before it, and the starts leave no choice.
abbrev pub OneIndex : Type 0
OneIndex = (xs ys : List Item) → listed xs ≡ listed ys → All HasFrame xs → All HasFrame ys
    → AllPairs IsBefore xs → AllPairs IsBefore ys → HaveStarts 0 xs → HaveStarts 0 ys → xs ≡ ys

-- ---- the line by halves of blocks

-- Whatever the links decode to, items that list the origins by its blocks' sizes give, from the
-- right half of each block and the left half of the next, the frames and gaps of the linear decode
-- of whole blocks, trimmed.
abbrev pub LineByHalves : Type 0
LineByHalves = (links : List (List (LinkEntry Values))) (xs : List Item)
    → OfFilmBlocks IsEven links → listed xs ≡ line_origins (sizes_of len_of links)
    → line_of overlap (λ k. right_half (block_at links k)) (λ k. left_half (block_at links k)) xs
    ≡ line frames_between 0 links

-- So do the items of an index of links that decode to blocks of their sizes.
abbrev pub LineByIndex : Type 0
LineByIndex = (rows : List LinkRows) (index : Indexed) (links : List (List (LinkEntry Values)))
    → Indexes rows index → map entries_of rows ≡ sizes_of len_of links → OfFilmBlocks IsEven links
    → line_of overlap (λ k. right_half (block_at links k)) (λ k. left_half (block_at links k))
    index.items ≡ line frames_between 0 links

-- ---- the blocks of a film

-- An index counts as many blocks as packets of the film decode to one.
abbrev pub BlocksAreCounted : Type 0
BlocksAreCounted = (links : List FilmLink) (index : Indexed) → Indexes (map rows_of links) index
    → index.blocks ≡ length (block_packets links)
