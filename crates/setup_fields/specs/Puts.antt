-- Fields that are put behind bits.
use Rattle.std.specs.Prelude.{◌≡◌, List, ◌++◌, Bool}
use Rattle.std.specs.List.{All}
use Rattle.model_bits.specs.Writing.{WrittenField, HasPlace, bits_of_fields}

-- each of these fields has a place in its bits
pub record HavePlaces (fields : List WrittenField) : Type 0 where
  pub each : All HasPlace fields

-- the bits of these fields stand behind the bits that were there before, and nothing else does
pub record ArePut (before after : List Bool) (fields : List WrittenField) : Type 0 where
  pub behind : after ≡ before ++ bits_of_fields fields

-- the bits that were there before stand in front, and there may be more behind them
abbrev pub IsFrontOf : List Bool → List Bool → Type 0
IsFrontOf before after = (more : List Bool) × (after ≡ before ++ more)
