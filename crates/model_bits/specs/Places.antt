-- The bits of a packet by their places.
use Rattle.std.specs.Prelude.{◌≡◌, ℕ, ◌+◌, ◌*◌, ◌/◌, ◌%◌, ◌^◌, ◌<◌, ◌≤◌, List, ◌++◌, length, drop, Option, Some, None, Bool, nat_le, if◌then◌else◌, sum_by, slice_index, option_map}
use Rattle.std.specs.List.{range_with_len}
use Rattle.model_bits.specs.Bits.{bits_of, bits_of_number, take_bits}

-- the bit at a place: 8 places for each byte, the lowest bit first
abbrev pub packet_bit : List ℕ → ℕ → ℕ
packet_bit bytes place = slice_index bytes (place / 8) / 2 ^ (place % 8) % 2

-- the number that so many bits from a place on make, the first of them the lowest; none past the
-- end
abbrev pub number_at : List ℕ → ℕ → ℕ → Option ℕ
number_at bytes place count =
    if nat_le (place + count) (8 * length bytes)
    then Some (sum_by (λ j. packet_bit bytes (place + j) * 2 ^ j) (range_with_len 0 count))
    else None

-- Taking bits from those that are left after a place gives the number at that place, and leaves
-- those after the next place.
abbrev pub TakesByPlace : Type 0
TakesByPlace =
    (bytes : List ℕ) (place count : ℕ) → place ≤ 8 * length bytes
    → take_bits count (drop place (bits_of bytes))
    ≡ option_map (λ number. (number, drop (place + count) (bits_of bytes)))
    (number_at bytes place count)

-- A number that was written is read again, whatever follows.
abbrev pub ReadsWhatWasWritten : Type 0
ReadsWhatWasWritten =
    (count number : ℕ) (rest : List Bool) → number < 2 ^ count
    → take_bits count (bits_of_number count number ++ rest) ≡ Some (number, rest)
