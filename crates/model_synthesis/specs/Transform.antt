-- The transform that makes the values of a block from its spectrum (Vorbis I, section 4.3.7: the
-- inverse of a modified discrete cosine transform), as the plain sum that it is.
use Rattle.std.specs.Prelude.{ℕ, zero, suc, ◌+◌, ◌*◌, ◌/◌, ◌≤◌, ℤ, pos, ◌+ℤ◌, ◌*ℤ◌, unsigned_abs, List, length, map, slice_index_or}
use Rattle.std.specs.List.{range_with_len}
use Rattle.model_fixed.specs.Fixed.{shift_down}
use Rattle.model_synthesis.specs.declared.limits.TheConstants.{BLOCK_LIMIT}
use Rattle.model_synthesis.specs.Tables.{ConstantTables, cosq}

-- a value of a block within its limit
abbrev pub IsBlockValue : ℤ → Type 0
IsBlockValue v = unsigned_abs v ≤ BLOCK_LIMIT

-- the sum of f k for each k < n
abbrev pub sum_below : ℕ → (ℕ → ℤ) → ℤ
sum_below zero f = pos 0
sum_below (suc n) f = sum_below n f +ℤ f n

-- the steps of a turn at which bin k has its cosine for the value i of a block of a size
abbrev pub steps_of : ℕ → ℕ → ℕ → ℕ
steps_of size i k = (2 * i + 1 + size / 2) * (2 * k + 1)

-- the sum over all bins for the value i of a block of a size, of which there are half as many
unfoldable pub sum_at : ConstantTables → ℕ → List ℤ → ℕ → ℤ
sum_at tables size spectrum i =
    sum_below (size / 2)
    (λ k. slice_index_or spectrum k (pos 0) *ℤ cosq tables size (steps_of size i k))

-- the values of a block: each sum, divided once and rounded down
unfoldable pub transformed : ConstantTables → List ℤ → List ℤ
transformed tables spectrum =
    let size = 2 * length spectrum in
    map (λ i. shift_down (sum_at tables size spectrum i) tables.scale) (range_with_len 0 size)
