-- The line by origins: each frame is known by the two blocks between which it lies and its number
-- there. What an index lists are these origins.
use Rattle.std.specs.Prelude.{◌≡◌, ℕ, ◌+◌, ◌-◌, ◌<◌, List, [], ◌∷◌, map, slice_range, if◌then◌else◌, Bool}
use Rattle.std.specs.List.{flat_map, range_with_len}
use Rattle.model_line.specs.declared.row.GapKind.TheVariants as kinds
use Rattle.model_line.specs.declared.row.RowKind.{RowKind}
use Rattle.model_line.specs.declared.row.RowKind.TheVariants.{Lost, Bad, Skip, Block}
use Rattle.model_line.specs.declared.row.Row.{Row}
use Rattle.model_line.specs.declared.row.LinkRows.{LinkRows}
use Rattle.model_line.specs.declared.item.Item.{Item}
use Rattle.model_line.specs.declared.item.Item.TheVariants as variants
use Rattle.model_line.specs.Decode.{Kind, missing, skipped, decoded, LinkEntry, LineItem, frame, gap, frame_count}
use Rattle.model_line.specs.Lines.{line}
use Rattle.model_line.specs.Blocks.{Frame}
pub use Rattle.model_synthesis.specs.Overlaps.{overlap_len}

-- the frames between two blocks of which only the sizes are known: their numbers
abbrev pub frame_numbers : ℕ → ℕ → List ℕ
frame_numbers a b = range_with_len 0 (overlap_len a b)

-- ---- entries of which only the sizes are known

abbrev pub size_of : ℕ → ℕ → Bool → ℕ
size_of short long is_long = if is_long then long else short

abbrev pub kind_of : ℕ → ℕ → RowKind → Kind ℕ
kind_of short long Lost = missing kinds.Lost
kind_of short long Bad = missing kinds.Bad
kind_of short long Skip = skipped
kind_of short long (Block is_long) = decoded (size_of short long is_long)

abbrev pub entry_of : ℕ → ℕ → Row → LinkEntry ℕ
entry_of short long row = record { kind = kind_of short long row.kind; mark = row.mark }

-- the entries of a link, each block known by its size
abbrev pub entries_of : LinkRows → List (LinkEntry ℕ)
entries_of link = map (entry_of link.short link.long) link.rows

-- ---- blocks with their numbers

-- a block, known by its number among the film's blocks and its size
pub record NumberedBlock : Type 0 where
  pub number : ℕ
  pub size : ℕ

abbrev pub kind_at : ℕ → Kind ℕ → Kind NumberedBlock
kind_at n (missing kind) = missing kind
kind_at n skipped = skipped
kind_at n (decoded size) = decoded (record { number = n; size = size })

-- the number of the next block after an entry
abbrev pub number_after : {B : Type 0} → ℕ → Kind B → ℕ
number_after n (missing kind) = n
number_after n skipped = n
number_after n (decoded b) = n + 1

-- a link's entries, its first block having this number
unfoldable pub numbered_entries : ℕ → List (LinkEntry ℕ) → List (LinkEntry NumberedBlock)
numbered_entries n [] = []
numbered_entries n (e ∷ es) =
    record { kind = kind_at n e.kind; mark = e.mark } ∷ numbered_entries (number_after n e.kind) es

-- the number of the next block after a link's entries
unfoldable pub number_behind : {B : Type 0} → ℕ → List (LinkEntry B) → ℕ
number_behind n [] = n
number_behind n (e ∷ es) = number_behind (number_after n e.kind) es

-- the entries of each link; the numbers go on from link to link
unfoldable pub numbered_links : ℕ → List (List (LinkEntry ℕ))
    → List (List (LinkEntry NumberedBlock))
numbered_links n [] = []
numbered_links n (es ∷ links) =
    numbered_entries n es ∷ numbered_links (number_behind n es) links

-- ---- origins of frames

-- the frame of this number between two blocks
pub record Origin : Type 0 where
  pub first : ℕ
  pub second : ℕ
  pub number : ℕ

abbrev pub origin : ℕ → ℕ → ℕ → Origin
origin first second number = record { first = first; second = second; number = number }

-- the origins of the frames between two neighbouring blocks
abbrev pub origins : NumberedBlock → NumberedBlock → List Origin
origins a b = map (origin a.number b.number) (range_with_len 0 (overlap_len a.size b.size))

-- an item whose frame is another value
abbrev pub frame_by : (Origin → Frame) → LineItem Origin → LineItem Frame
frame_by value (frame link origin) = frame link (value origin)
frame_by value (gap link kind) = gap link kind

-- the line of a film by origins, the blocks of its links' entries being known by their sizes
abbrev pub line_origins : List (List (LinkEntry ℕ)) → List (LineItem Origin)
line_origins links = line origins 0 (numbered_links 0 links)

-- ---- what an index's items mean

-- the frames from one number to another between a block and the next
abbrev pub span_origins : ℕ → ℕ → ℕ → ℕ → List (LineItem Origin)
span_origins link block from to =
    map (frame link) (map (origin block (block + 1)) (range_with_len from (to - from)))

abbrev pub origins_of : Item → List (LineItem Origin)
origins_of (variants.Span s) = span_origins s.link s.block s.from s.to
origins_of (variants.Gap link kind) = gap link kind ∷ []

-- the origins that items list
unfoldable pub listed : List Item → List (LineItem Origin)
listed xs = flat_map origins_of xs

-- how many frames stand before each item, where so many stand before them all
unfoldable pub starts_from : ℕ → List Item → List ℕ
starts_from n [] = []
starts_from n (x ∷ xs) = n ∷ starts_from (n + frame_count (origins_of x)) xs

-- a span starts after so many frames
abbrev pub HasStart : ℕ → Item → Type 0
HasStart n (variants.Span s) = s.start ≡ n
HasStart n (variants.Gap link kind) = Unit {0}

-- each span's start is the number of frames before it, where so many stand before them all
unfoldable pub HaveStarts : ℕ → List Item → Type 0
HaveStarts n [] = Unit {0}
HaveStarts n (x ∷ xs) = HasStart n x × HaveStarts (n + frame_count (origins_of x)) xs

-- a span has a frame
abbrev pub HasFrame : Item → Type 0
HasFrame (variants.Span s) = s.from < s.to
HasFrame (variants.Gap link kind) = Unit {0}

-- of two spans the first is of an earlier block
abbrev pub IsBefore : Item → Item → Type 0
IsBefore (variants.Span s) (variants.Span t) = s.block < t.block
IsBefore (variants.Span s) (variants.Gap link kind) = Unit {0}
IsBefore (variants.Gap link kind) y = Unit {0}

-- ---- the line by the index: from single halves of blocks

-- the item's frames, from the right half of its block and the left half of the next
abbrev pub item_frames : {H F : Type 0} → (H → H → List F) → (ℕ → H) → (ℕ → H) → Item
    → List (LineItem F)
item_frames overlap right left (variants.Span s) =
    map (frame s.link)
    (slice_range (overlap (right s.block) (left (s.block + 1))) s.from s.to)
item_frames overlap right left (variants.Gap link kind) = gap link kind ∷ []

-- the line that an index's items and the halves of the film's blocks give
unfoldable pub line_of : {H F : Type 0} → (H → H → List F) → (ℕ → H) → (ℕ → H) → List Item
    → List (LineItem F)
line_of overlap right left xs = flat_map (item_frames overlap right left) xs
