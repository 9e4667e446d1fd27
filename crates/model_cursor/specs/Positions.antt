-- Positions: where a cursor stands among the items of an index, and the place of the line that this
-- is.
use Rattle.std.specs.Prelude.{◌≡◌, ℕ, ◌+◌, ◌<◌, ◌≤◌, max, List, length, take, MatchOption}
use Rattle.std.specs.List.{All, slice_get}
use Rattle.model_line.specs.declared.item.Item.{Item}
use Rattle.model_line.specs.Decode.{frame_count, gap_count}
use Rattle.model_line.specs.Origins.{origins_of, listed}
use Rattle.model_line.specs.Index.{Indexed}
use Rattle.model_line.specs.Blocks.{Frame}
use Rattle.model_cursor.specs.Cursors.{CursorState, IsCursor}
use Rattle.model_cursor.specs.Sources.{channels_in}
use Rattle.model_cursor.specs.Splices.{link_at}

-- a position: the number of the item at which it is, how many frames are before it, and a patch
pub record Position : Type 0 where
  pub item : ℕ
  pub told : ℕ
  pub patch : List Frame

-- how many frames are before the item of this number, and how many gaps
abbrev pub start_of : List Item → ℕ → ℕ
start_of items item = frame_count (listed (take item items))

abbrev pub gaps_before : List Item → ℕ → ℕ
gaps_before items item = gap_count (listed (take item items))

-- A position in the line that items list: before some frame of its item, before the gap that its
-- item is, or behind all items.
pub record IsPosition (items : List Item) (p : Position) : Type 0 where
  pub from : start_of items p.item ≤ p.told
  pub before : MatchOption (slice_get items p.item) (p.told ≡ start_of items p.item)
      (λ x. p.told < start_of items p.item + max 1 (frame_count (origins_of x)))

-- the cursor at a position: behind its frames and the gaps before its item
abbrev pub state_in : List Item → Position → CursorState
state_in items p = record { place = p.told + gaps_before items p.item; patch = p.patch }

-- The position of a cursor in the line that an index lists: its patch is no longer than the run
-- there, and has a value for each channel of the link.
pub record IsCursorIn (index : Indexed) (p : Position) : Type 0 where
  pub position : IsPosition index.items p
  pub cursor : IsCursor (listed index.items) (state_in index.items p)
  pub channels : All (λ (f : Frame). length f
      ≡ channels_in index.links (link_at (length index.links) (listed index.items)
      (state_in index.items p).place)) p.patch
