-- The values of a block, from half of its sums.
use Rattle.std.specs.Prelude.{ℕ, ◌+◌, ◌-◌, ◌*◌, ◌/◌, ℤ, pos, neg_ℤ, nat_lt, if◌then◌else◌, List, length, map, slice_index_or}
use Rattle.std.specs.List.{range_with_len}
use Rattle.model_fixed.specs.Fixed.{shift_down}

-- The sum for the value i of a block of a size, where the sums of the first and of the third
-- quarter are given. Those of the second are those of the first, turned round and with their signs
-- changed, and those of the fourth are those of the third, turned round.
abbrev pub unfolded_sum : ℕ → List ℤ → ℕ → ℤ
unfolded_sum size sums i =
    if nat_lt i (size / 4) then slice_index_or sums i (pos 0)
    else (if nat_lt i (size / 2) then neg_ℤ (slice_index_or sums (size / 2 - 1 - i) (pos 0))
    else (if nat_lt i (3 * (size / 4)) then slice_index_or sums (i - size / 4) (pos 0)
    else slice_index_or sums (5 * (size / 4) - 1 - i) (pos 0)))

-- the values of the block: each sum divided by 2 ^ bits, once, and rounded down
unfoldable pub unfolded : List ℤ → ℕ → List ℤ
unfolded sums bits =
    map (λ i. shift_down (unfolded_sum (2 * length sums) sums i) bits)
    (range_with_len 0 (2 * length sums))
