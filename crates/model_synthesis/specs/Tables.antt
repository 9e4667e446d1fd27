-- The constants of a synthesis in whole numbers, and what its calls take from them.
use Rattle.std.specs.Prelude.{◌≡◌, ℕ, ◌+◌, ◌-◌, ◌*◌, ◌/◌, ◌%◌, ◌^◌, ◌≤◌, ℤ, pos, neg_ℤ, nat_lt, if◌then◌else◌, List, [], ◌∷◌, length, map, slice_index, sum}
use Rattle.std.specs.List.{filter, range_with_len}
use Rattle.model_synthesis.specs.declared.constants.TheConstants.{DECIBEL_COUNT, SLOPE_COUNT, COSINE_COUNT, GREATEST_DECIBEL, SCALE}

-- Decibel values are in units of 2 ^ -30, slopes and cosines in units of 2 ^ -scale. A decibel
-- value is that of a floor's curve (Vorbis I, section 10.1). The slopes of all sizes stand one
-- behind the other; the one of a size is half of a window (Vorbis I, section 4.3.1). The cosines
-- are those of a quarter turn.
pub record ConstantTables : Type 0 where
  pub scale : ℕ
  pub decibels : List ℕ
  pub slopes : List ℕ
  pub cosines : List ℕ

-- tables as every accepted file has them
pub record AreTables (tables : ConstantTables) : Type 0 where
  pub scale : tables.scale ≡ SCALE
  pub decibel_count : length tables.decibels ≡ DECIBEL_COUNT
  pub slope_count : length tables.slopes ≡ SLOPE_COUNT
  pub cosine_count : length tables.cosines ≡ COSINE_COUNT
  pub decibels : (i : ℕ) → slice_index tables.decibels i ≤ GREATEST_DECIBEL
  pub slopes : (i : ℕ) → slice_index tables.slopes i ≤ 2 ^ tables.scale
  pub cosines : (i : ℕ) → slice_index tables.cosines i ≤ 2 ^ tables.scale

-- the decibel value of a height of a curve
abbrev pub decibel : ConstantTables → ℕ → ℕ
decibel tables height = slice_index tables.decibels height

-- ---- slopes

-- the sizes that slopes have, in the order of the tables
abbrev pub slope_sizes : List ℕ
slope_sizes = 32 ∷ 64 ∷ 128 ∷ 256 ∷ 512 ∷ 1024 ∷ 2048 ∷ 4096 ∷ []

pub record IsSlopeSize (size : ℕ) : Type 0 where
  pub exponent : ℕ
  pub at_least_32 : 5 ≤ exponent
  pub at_most_4096 : exponent ≤ 12
  pub is_power : size ≡ 2 ^ exponent

-- how many values the slopes before that of a size have
abbrev pub slopes_before : ℕ → ℕ
slopes_before size = sum (filter (λ other. nat_lt other size) slope_sizes)

-- the value at a place of the slope of a size
abbrev pub slope : ConstantTables → ℕ → ℕ → ℕ
slope tables size place = slice_index tables.slopes (slopes_before size + place)

-- ---- cosines

-- a turn of 4 * size steps from its first quarter, as the cosine goes through it
abbrev pub quarters : ℕ → (ℕ → ℤ) → ℕ → ℤ
quarters size first u =
    if nat_lt u size then first u
    else (if nat_lt u (2 * size) then neg_ℤ (first (2 * size - u))
    else (if nat_lt u (3 * size) then neg_ℤ (first (u - 2 * size))
    else first (4 * size - u)))

-- the same at any step, turn after turn
unfoldable pub wave : ℕ → (ℕ → ℤ) → ℕ → ℤ
wave size first t = quarters size first (t % (4 * size))

-- the cosine in the first quarter of a turn of 4 * size steps, after u of them
abbrev pub first_quarter : List ℕ → ℕ → ℕ → ℤ
first_quarter cosines size u = pos (slice_index cosines (u * (COSINE_COUNT / size)))

-- the cosine of t steps, of which a block of a size has four times its size in a turn; t is odd
abbrev pub cosq : ConstantTables → ℕ → ℕ → ℤ
cosq tables size = wave size (first_quarter tables.cosines size)

-- the cosines of the odd numbers of steps of one turn: at place j that of 2 * j + 1
unfoldable pub turn_of : List ℕ → ℕ → List ℤ
turn_of cosines size =
    map (λ j. wave size (first_quarter cosines size) (2 * j + 1)) (range_with_len 0 (2 * size))

-- those of all block sizes, the shortest first
abbrev pub turns_of : List ℕ → List (List ℤ)
turns_of cosines = map (λ e. turn_of cosines (2 ^ e)) (range_with_len 6 8)
