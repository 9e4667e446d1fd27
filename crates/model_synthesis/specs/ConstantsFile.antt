-- What a constants file is: its word, and then the decibel values, the slopes and the cosines, each
-- number in four bytes, the lowest first.
use Rattle.std.specs.Prelude.{ℕ, ◌+◌, ◌*◌, ◌/◌, ◌^◌, Bool, nat_eq, nat_lt, ◌==◌, if◌then◌else◌, List, length, take, drop, map, Option, Some, None, Result, Ok, Err}
use Rattle.std.specs.List.{range_with_len, starts_with, find}
use Rattle.byteorder.specs.Endian.{little_number}
use Rattle.model_synthesis.specs.declared.constants.TheConstants.{CONSTANTS_WORD, CONSTANTS_SIZE, DECIBEL_COUNT, SLOPE_COUNT, COSINE_COUNT, GREATEST_DECIBEL, SCALE}
use Rattle.model_synthesis.specs.declared.constants.ConstantsFault.{ConstantsFault}
use Rattle.model_synthesis.specs.declared.constants.ConstantsFault.TheVariants.{Magic, Length, Range}
use Rattle.model_synthesis.specs.Tables.{ConstantTables}

-- In the definitions down to `tables_in`, `body` is what stands behind the file's word.

-- the number of this index
abbrev pub number_at : List ℕ → ℕ → ℕ
number_at body index = little_number 4 (drop (4 * index) body)

abbrev pub number_count : List ℕ → ℕ
number_count body = length body / 4

-- all numbers
abbrev pub numbers_of : List ℕ → List ℕ
numbers_of body = map (number_at body) (range_with_len 0 (number_count body))

-- the greatest value that the number of an index may have
abbrev pub greatest_at : ℕ → ℕ
greatest_at index = if nat_lt index DECIBEL_COUNT then GREATEST_DECIBEL else 2 ^ SCALE

abbrev pub is_past : List ℕ → ℕ → Bool
is_past body index = nat_lt (greatest_at index) (number_at body index)

-- the index of the first number that is past its greatest value
abbrev pub first_past : List ℕ → Option ℕ
first_past body = find (is_past body) (range_with_len 0 (number_count body))

-- so many numbers, from an index on
abbrev pub section : List ℕ → ℕ → ℕ → List ℕ
section numbers first count = take count (drop first numbers)

abbrev pub tables_of : List ℕ → ConstantTables
tables_of numbers = record {
  scale = SCALE;
  decibels = section numbers 0 DECIBEL_COUNT;
  slopes = section numbers DECIBEL_COUNT SLOPE_COUNT;
  cosines = section numbers (DECIBEL_COUNT + SLOPE_COUNT) COSINE_COUNT;
}

-- the tables, if no number is past its greatest value
abbrev pub tables_unless : List ℕ → Option ℕ → Result ConstantTables ConstantsFault
tables_unless body None = Ok (tables_of (numbers_of body))
tables_unless body (Some index) = Err (Range index (number_at body index))

abbrev pub tables_in : List ℕ → Result ConstantTables ConstantsFault
tables_in body = tables_unless body (first_past body)

-- the tables of a constants file, or the first cause why it is none
unfoldable pub constants_of : List ℕ → Result ConstantTables ConstantsFault
constants_of bytes =
    if starts_with nat_eq bytes CONSTANTS_WORD
    then (if length bytes == CONSTANTS_SIZE
    then tables_in (drop (length CONSTANTS_WORD) bytes)
    else Err (Length (length bytes)))
    else Err Magic
