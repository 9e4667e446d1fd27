-- The place that a search in a list of numbers finds.
use Rattle.std.specs.Prelude.{ℕ, ◌<◌, ◌≤◌, List, length, slice_index}

-- The last place whose number is at most p: it is a place of the list, its number is at most p, and
-- each number behind it is more.
pub record IsLastAtMost (numbers : List ℕ) (p place : ℕ) : Type 0 where
  pub within : place < length numbers
  pub at_most : slice_index numbers place ≤ p
  pub last : (k : ℕ) → place < k → k < length numbers → p < slice_index numbers k

-- There is none: each number is more than p.
abbrev pub AreAllAbove : List ℕ → ℕ → Type 0
AreAllAbove numbers p = (k : ℕ) → k < length numbers → p < slice_index numbers k
