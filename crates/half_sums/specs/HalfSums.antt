-- Half of a block's sums, of which the others follow.
use Rattle.std.specs.Prelude.{ℕ, ◌≡◌, ◌+◌, ◌*◌, ◌/◌, ◌^◌, ◌≤◌, ℤ, unsigned_abs, nat_lt, if◌then◌else◌, List, length, map}
use Rattle.std.specs.List.{All, range_with_len}
use Rattle.model_synthesis.specs.Tables.{ConstantTables}
use Rattle.model_synthesis.specs.Transform.{sum_at}

-- the places of these sums: those of the first and of the third quarter of a block
abbrev pub half_place : ℕ → ℕ → ℕ
half_place size j = if nat_lt j (size / 4) then j else j + size / 4

-- a sum within its limit
abbrev pub IsSum : ℤ → Type 0
IsSum sum = unsigned_abs sum ≤ 2 ^ 62

-- the sums for these places, before their division
unfoldable pub half_sums : ConstantTables → ℕ → List ℤ → List ℤ
half_sums tables size spectrum =
    map (λ j. sum_at tables size spectrum (half_place size j)) (range_with_len 0 (size / 2))

-- These are the half sums of a spectrum, with the cosines of a quarter turn: those that the plain
-- sum of the inverse transform gives by all tables that have these cosines, each within its limit.
pub record AreHalfSums (cosines : List ℕ) (spectrum sums : List ℤ) : Type 0 where
  pub values :
      (tables : ConstantTables)
      → tables.cosines ≡ cosines
      → sums ≡ half_sums tables (2 * length spectrum) spectrum
  pub small : All IsSum sums
