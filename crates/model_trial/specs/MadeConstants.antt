-- The made constants: plain curves that rise or fall, which need no function of analysis.
use Rattle.std.specs.Prelude.{ℕ, ◌+◌, ◌-◌, ◌*◌, ◌/◌, ◌^◌, List, ◌++◌, map}
use Rattle.std.specs.Int.{w32, to_le_bytes}
use Rattle.std.specs.List.{flat_map, range_with_len}
use Rattle.model_synthesis.specs.declared.constants.TheConstants.{CONSTANTS_WORD, DECIBEL_COUNT, COSINE_COUNT, SCALE}
use Rattle.model_synthesis.specs.Tables.{ConstantTables, slope_sizes}

-- the decibel value of a height: twice as much every 12 heights
unfoldable pub made_decibel : ℕ → ℕ
made_decibel height = 2 ^ (height / 12 + 9)

unfoldable pub made_decibels : List ℕ
made_decibels = map made_decibel (range_with_len 0 DECIBEL_COUNT)

-- the slope of a size at a place: a straight line, at the middle of the place
unfoldable pub made_slope : ℕ → ℕ → ℕ
made_slope size place = 2 ^ SCALE * (2 * place + 1) / (2 * size)

unfoldable pub made_slope_table : ℕ → List ℕ
made_slope_table size = map (made_slope size) (range_with_len 0 size)

unfoldable pub made_slopes : List ℕ
made_slopes = flat_map made_slope_table slope_sizes

-- the cosine of a step of a quarter turn: a parabola
unfoldable pub made_cosine : ℕ → ℕ
made_cosine step = 2 ^ SCALE - step * step / 8

unfoldable pub made_cosines : List ℕ
made_cosines = map made_cosine (range_with_len 0 COSINE_COUNT)

-- the tables of the made constants
abbrev pub made_tables : ConstantTables
made_tables = record {
  scale = SCALE;
  decibels = made_decibels;
  slopes = made_slopes;
  cosines = made_cosines;
}

-- a number in four bytes, the lowest first
abbrev pub number_bytes : ℕ → List ℕ
number_bytes number = to_le_bytes w32 number

-- the file of these constants
unfoldable pub made_constants : List ℕ
made_constants =
    CONSTANTS_WORD ++ flat_map number_bytes (made_decibels ++ (made_slopes ++ made_cosines))
