-- What is laid out for blocks of one size.
use Rattle.std.specs.Prelude.{ℕ, ◌≡◌, ◌*◌, ◌%◌, ◌^◌, ◌≤◌, ◌<◌, ℤ, pos, ◌+ℤ◌, List, length, map, slice_get, slice_index, Some}
use Rattle.std.specs.List.{range_with_len}
use Rattle.number_transform.specs.Field.{residue_of}
use Rattle.model_synthesis.specs.declared.constants.TheConstants.{COSINE_COUNT, SCALE}
use Rattle.model_synthesis.specs.Tables.{wave, first_quarter}
use Rattle.number_transform.specs.Factors.{factor_of}
use Rattle.half_sums.specs.declared.block.TheConstants.{BIN_STEP, SUM_STEP, SHORT_LEVELS}
use Rattle.half_sums.specs.declared.block.Block.{Block}
use Rattle.half_sums.specs.declared.places.Place.{Place}
use Rattle.half_sums.specs.Places.{IsBinPlace, IsSumPlace}

-- how many values a block of 2 ^ levels bins has
abbrev pub size_of : ℕ → ℕ
size_of levels = 2 * 2 ^ levels

-- a power of a number, within a turn
abbrev pub power_step : ℕ → ℕ → ℕ → ℕ
power_step step size k = step ^ k % (4 * size)

-- the cosine of t steps
abbrev pub cosine_at : List ℕ → ℕ → ℕ → ℤ
cosine_at cosines size = wave size (first_quarter cosines size)

-- the residues of the cosines at the powers of the step of sums
abbrev pub cosine_list : List ℕ → ℕ → List ℕ
cosine_list cosines levels =
    map (λ k. residue_of (cosine_at cosines (size_of levels) (SUM_STEP ^ k)))
    (range_with_len 0 (2 ^ levels))

-- the cosines of a quarter turn
pub record AreCosines (cosines : List ℕ) : Type 0 where
  pub count : length cosines ≡ COSINE_COUNT
  pub small : (i : ℕ) → slice_index cosines i ≤ 2 ^ SCALE

pub record AreBinPlaces (levels : ℕ) (places : List Place) : Type 0 where
  pub count : length places ≡ 2 ^ levels
  pub each :
      (b : ℕ) (p : Place)
      → slice_get places b ≡ Some p
      → IsBinPlace (size_of levels) (power_step BIN_STEP (size_of levels) b) p

pub record AreSumPlaces (levels : ℕ) (places : List Place) : Type 0 where
  pub count : length places ≡ 2 ^ levels
  pub each :
      (a : ℕ) (p : Place)
      → slice_get places a ≡ Some p
      → IsSumPlace (size_of levels) (power_step SUM_STEP (size_of levels) a) p

-- Each cosine at a power of the step of sums, with its sign changed and raised so that it isn't
-- below zero. The powers go on past the number of sums, since a bin takes them from its own place
-- on.
pub record AreWaves (levels : ℕ) (cosines waves : List ℕ) : Type 0 where
  pub count : length waves ≡ 3 * 2 ^ levels
  pub small : (k : ℕ) → slice_index waves k ≤ 2 * 2 ^ SCALE
  pub each :
      (k : ℕ)
      → k < 3 * 2 ^ levels
      → (pos (slice_index waves k) +ℤ cosine_at cosines (size_of levels) (SUM_STEP ^ k))
      ≡ pos (2 ^ SCALE)

-- a block's places, its factor, and the waves of a short one
pub record IsBlockFor (levels : ℕ) (cosines : List ℕ) (block : Block) : Type 0 where
  pub some : 2 ≤ levels
  pub few : levels ≤ 12
  pub bins : AreBinPlaces levels block.bins.items
  pub sums : AreSumPlaces levels block.sums.items
  pub factor : block.factor.items ≡ factor_of levels (cosine_list cosines levels)
  pub waves : levels ≤ SHORT_LEVELS → AreWaves levels cosines block.waves.items
