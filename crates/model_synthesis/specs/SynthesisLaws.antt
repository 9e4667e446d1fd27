-- Laws of coupling and of the transform, in their own words.
use Rattle.std.specs.Prelude.{◌≡◌, ℕ, ◌+◌, ◌*◌, ◌/◌, ◌<◌, ◌≤◌, ℤ, pos, neg_ℤ, ◌-ℤ◌, unsigned_abs, List}
use Rattle.model_fixed.specs.Fixed.{IsWithinLimit}
use Rattle.model_setup.specs.HeaderPackets.{IsBlockSize}
use Rattle.model_synthesis.specs.Tables.{ConstantTables}
use Rattle.model_synthesis.specs.Coupling.{first_of, second_of}
use Rattle.model_synthesis.specs.Transform.{sum_at}

-- a magnitude and an angle stand for two values
pub record StandFor (magnitude angle x y : ℤ) : Type 0 where
  pub first : first_of magnitude angle ≡ x
  pub second : second_of magnitude angle ≡ y

-- what lies between two values
abbrev pub distance : ℤ → ℤ → ℕ
distance x y = unsigned_abs (x -ℤ y)

-- Of two values the magnitude is the one that lies further from 0, and the angle tells how far the
-- other lies from it: above 0 where the first is the magnitude, else not.
abbrev pub CouplingIsUndone : Type 0
CouplingIsUndone =
    (x y : ℤ)
    → IsWithinLimit x
    → IsWithinLimit y
    → (unsigned_abs y < unsigned_abs x → StandFor x (pos (distance x y)) x y)
    × (unsigned_abs x ≤ unsigned_abs y → StandFor y (neg_ℤ (pos (distance x y))) x y)

-- Of a block's sums, before their division, the second quarter is the first one turned round, with
-- its sign changed.
abbrev pub SecondQuarterTurnsFirst : Type 0
SecondQuarterTurnsFirst =
    (tables : ConstantTables) (size : ℕ) (spectrum : List ℤ) (i j : ℕ)
    → IsBlockSize size
    → i + j + 1 ≡ size / 2
    → sum_at tables size spectrum j ≡ neg_ℤ (sum_at tables size spectrum i)

-- Of a block's sums, before their division, the fourth quarter is the third one turned round.
abbrev pub FourthQuarterTurnsThird : Type 0
FourthQuarterTurnsThird =
    (tables : ConstantTables) (size : ℕ) (spectrum : List ℤ) (i j : ℕ)
    → IsBlockSize size
    → i + j + 1 ≡ 3 * (size / 2)
    → sum_at tables size spectrum j ≡ sum_at tables size spectrum i
