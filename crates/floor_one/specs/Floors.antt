-- What the private parts of a floor keep.
use Rattle.std.specs.Prelude.{ℕ, List}
use Rattle.model_setup.specs.FloorSetup.{FloorClass, IsFloor}

-- parts that make a floor
abbrev pub IsFloorOf : List ℕ → List FloorClass → ℕ → List ℕ → Type 0
IsFloorOf partitions classes multiplier x_values =
    IsFloor (record {
      partitions = partitions;
      classes = classes;
      multiplier = multiplier;
      x_values = x_values;
    })
