-- What a table of vectors keeps beside what was read: the multiplicands in units of 2 ^ -16, and a
-- factor that stands for a division.
use Rattle.std.specs.Prelude.{◌≡◌, ℕ, ◌+◌, ◌/◌, ◌^◌, ◌<◌, ℤ, ◌+ℤ◌, List, length, map}
use Rattle.model_fixed.specs.Fixed.{fix}
use Rattle.model_setup.specs.Codebook.{Lookup}

-- a multiplicand times the delta, with the minimum added
abbrev pub unit_of : ℕ → ℕ → ℕ → ℤ
unit_of minimum delta multiplicand = fix multiplicand delta +ℤ fix 1 minimum

-- what a number is multiplied by, in place of a division by this one: the quotient is the product
-- divided by 2 ^ 64
abbrev pub factor_of : ℕ → ℕ
factor_of divisor = 2 ^ 64 / divisor + 1

pub record IsVectorTable (lookup : Lookup) (units : List ℤ) (factor : ℕ) : Type 0 where
  pub units_are : units ≡ map (unit_of lookup.minimum lookup.delta) lookup.multiplicands
  pub factor_is : 0 < length lookup.multiplicands → factor ≡ factor_of (length lookup.multiplicands)
  pub few : length lookup.multiplicands < 2 ^ 32
