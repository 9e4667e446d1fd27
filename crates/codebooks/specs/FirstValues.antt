-- The first values of a vector.
use Rattle.std.specs.Prelude.{ℕ, ℤ, List, take, Option, Bool, option_map}

-- the first values of a vector that was read
abbrev pub first_values_of : ℕ → Option (List ℤ × List Bool) → Option (List ℤ × List Bool)
first_values_of count read = option_map (λ (r : List ℤ × List Bool). (take count r.0, r.1)) read
