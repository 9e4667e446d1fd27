-- What a listing of items keeps while it grows.
use Rattle.std.specs.Prelude.{◌≡◌, ℕ, ◌+◌, ◌-◌, ◌*◌, ◌<◌, ◌≤◌, List, Option, Some, None, All}
use Rattle.std.specs.List.{AllPairs}
use Rattle.model_line.specs.declared.row.TheConstants.{MOST_ENTRIES}
use Rattle.model_line.specs.declared.item.Item.{Item}
use Rattle.model_line.specs.declared.item.Item.TheVariants as variants
use Rattle.model_line.specs.Decode.{frame_count, gap_count}
use Rattle.model_line.specs.Origins.{NumberedBlock, starts_from, HaveStarts, listed, HasFrame, IsBefore}
use Rattle.film_index.specs.declared.listing.Lists.{Lists}
use Rattle.film_index.specs.declared.listing.Counts.{Counts}
use Rattle.film_index.specs.Bounds.{most_overlap}

-- a span's first block has a number below this one
abbrev pub IsBelow : ℕ → Item → Type 0
IsBelow n (variants.Span s) = s.block < n
IsBelow n (variants.Gap link kind) = Unit {0}

-- items with their starts, their frames and their gaps; the next span is of this block or of a
-- later one
pub record AreListed (next : ℕ) (xs : List Item) (begun : List ℕ) (frame_total gap_total : ℕ)
    : Type 0 where
  pub starts : begun ≡ starts_from 0 xs
  pub started : HaveStarts 0 xs
  pub total : frame_total ≡ frame_count (listed xs)
  pub gaps : gap_total ≡ gap_count (listed xs)
  pub frames : All HasFrame xs
  pub rising : AllPairs IsBefore xs
  pub below : All (IsBelow next) xs

abbrev pub IsListing : ℕ → Lists → Counts → Type 0
IsListing next l counts = AreListed next l.items.items l.starts.items counts.total counts.gaps

-- there is room for so many entries more
pub record HasRoom (counts : Counts) (rows : ℕ) : Type 0 where
  pub total : counts.total + most_overlap * rows ≤ most_overlap * MOST_ENTRIES
  pub gaps : counts.gaps + rows ≤ MOST_ENTRIES
  pub blocks : counts.blocks + rows ≤ MOST_ENTRIES

-- so many entries were added at most
pub record HasGrown (old new : Counts) (rows : ℕ) : Type 0 where
  pub total : new.total ≤ old.total + most_overlap * rows
  pub gaps : new.gaps ≤ old.gaps + rows
  pub blocks : new.blocks ≤ old.blocks + rows

-- the previous block, of this size, where the next block has this number
abbrev pub before : ℕ → Option ℕ → Option NumberedBlock
before next None = None
before next (Some size) = Some (record { number = next - 1; size = size })
