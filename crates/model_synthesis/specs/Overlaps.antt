-- The overlap of two neighbouring blocks in one channel (Vorbis I, section 4.3.8).
use Rattle.std.specs.Prelude.{ℕ, ◌+◌, ◌-◌, ◌*◌, ◌/◌, ◌≤◌, ℤ, pos, ◌+ℤ◌, unsigned_abs, nat_lt, if◌then◌else◌, List, length, map, slice_index_or}
use Rattle.std.specs.List.{range_with_len}
use Rattle.model_synthesis.specs.declared.limits.TheConstants.{BLOCK_LIMIT}

-- value j of a list; behind the last there are zeros
abbrev pub value_at : List ℤ → ℕ → ℤ
value_at values j = slice_index_or values j (pos 0)

-- the value that stands at j where k zeros are put before the first
abbrev pub value_behind_zeros : List ℤ → ℕ → ℕ → ℤ
value_behind_zeros values j k = if nat_lt j k then pos 0 else value_at values (j - k)

-- How many frames two neighbouring blocks of these sizes give: a quarter of each, from the middle
-- of the first to the middle of the second.
abbrev pub overlap_len : ℕ → ℕ → ℕ
overlap_len a b = a / 4 + b / 4

-- Frame j between a block of size a, of which the right half is given, and one of size b, of which
-- the left half is. The first counts from its middle on; the second is moved so that the centres of
-- the two slopes meet, which are three quarters of the first and one quarter of the second from
-- where each begins.
abbrev pub overlap_at : ℕ → ℕ → List ℤ → List ℤ → ℕ → ℤ
overlap_at a b right left j = value_at right j +ℤ value_behind_zeros left (j + b / 4) (a / 4)

-- all frames between the right half of a block and the left half of the next
unfoldable pub overlapped : List ℤ → List ℤ → List ℤ
overlapped right left =
    let a = 2 * length right in
    let b = 2 * length left in
    map (overlap_at a b right left) (range_with_len 0 (overlap_len a b))

-- what two values of blocks make together is within twice their limit
abbrev pub IsFrameValue : ℤ → Type 0
IsFrameValue v = unsigned_abs v ≤ 2 * BLOCK_LIMIT

abbrev pub AreFrameValues : List ℤ → Type 0
AreFrameValues values = (i : ℕ) → IsFrameValue (value_at values i)
