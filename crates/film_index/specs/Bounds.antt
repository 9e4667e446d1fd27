-- How large a film may be, so that each number of its index has room.
use Rattle.std.specs.Prelude.{ℕ, ◌/◌, ◌≤◌, List, length, All, sum_by}
use Rattle.model_ogg.specs.declared.link.TheConstants.{MOST_LINKS}
use Rattle.model_line.specs.declared.row.TheConstants.{LARGEST_BLOCK, MOST_ENTRIES}
use Rattle.model_line.specs.declared.row.LinkRows.{LinkRows}
use Rattle.film_index.specs.declared.walk.Sizes.{Sizes}

-- a block of this size is not too large
abbrev pub FitsSize : ℕ → Type 0
FitsSize size = size ≤ LARGEST_BLOCK

-- the most frames between two blocks
abbrev pub most_overlap : ℕ
most_overlap = LARGEST_BLOCK / 2

-- a link's blocks are not too large
pub record FitSizes (sizes : Sizes) : Type 0 where
  pub short : FitsSize sizes.short
  pub long : FitsSize sizes.long

abbrev pub FitsLink : LinkRows → Type 0
FitsLink link = FitSizes (record { short = link.short; long = link.long })

-- how many entries links have
abbrev pub rows_in : List LinkRows → ℕ
rows_in links = sum_by (λ (link : LinkRows). length link.rows) links

-- a film that an index is made of
pub record FitsIndex (links : List LinkRows) : Type 0 where
  pub count : length links ≤ MOST_LINKS
  pub rows : rows_in links ≤ MOST_ENTRIES
  pub sizes : All FitsLink links
