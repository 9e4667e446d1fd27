-- What the private parts of a floor's points keep.
use Rattle.std.specs.Prelude.{◌≡◌, ℕ, ◌-◌, ◌<◌, ◌≤◌, ◌^◌, List, [], ◌∷◌, ◌++◌, length, drop, map, Bool, Result, slice_index}
use Rattle.std.specs.List.{AllPairs, flat_map, range_with_len}
use Rattle.std.specs.List.Sorted.{IsPermutation}
use Rattle.model_bits.specs.Reading.{with_front}
use Rattle.model_bits.specs.Writing.{WrittenField, in_bits}
use Rattle.model_setup.specs.declared.floor.TheConstants.{MOST_POINTS}
use Rattle.model_setup.specs.FloorSetup.{ArePoints}
use Rattle.model_setup.specs.FloorCurve.{low_neighbour, high_neighbour}
use Rattle.model_writing.specs.SetupWriting.{range_bits}
use Rattle.floor_one.specs.declared.points.Neighbours.{Neighbours}
use Rattle.floor_one.specs.declared.points.Position.{Position}

-- the two ends among the bins of points, of which two may still be the same
pub record AreEnds (x_values : List ℕ) : Type 0 where
  pub two : 2 ≤ length x_values
  pub few : length x_values ≤ MOST_POINTS
  pub first : slice_index x_values 0 ≡ 0
  pub second : (i : ℕ) → i < length x_values → 1 < i
      → slice_index x_values i < slice_index x_values 1
  pub some : 0 < slice_index x_values 1
  pub within : slice_index x_values 1 < 2 ^ 16

-- the first two bins, and those that are read behind them
abbrev pub with_ends : {E : Type 0} → ℕ → Result (List ℕ × List Bool) E
    → Result (List ℕ × List Bool) E
with_ends range_bits read = with_front (0 ∷ 2 ^ range_bits ∷ []) read

-- the neighbours of a point
abbrev pub neighbours_at : List ℕ → ℕ → Neighbours
neighbours_at x_values i =
    record { low = low_neighbour x_values i; high = high_neighbour x_values i }

-- the neighbours of each point behind the first two
abbrev pub neighbours_of : List ℕ → List Neighbours
neighbours_of x_values = map (neighbours_at x_values) (range_with_len 2 (length x_values - 2))

-- the position of a point
abbrev pub position_at : List ℕ → ℕ → Position
position_at x_values i = record { x = slice_index x_values i; number = i }

-- the position of each point
abbrev pub positions_of : List ℕ → List Position
positions_of x_values = map (position_at x_values) (range_with_len 0 (length x_values))

-- all points in rising order of their bins
pub record AreInOrder (x_values : List ℕ) (order : List Position) : Type 0 where
  pub same : IsPermutation (positions_of x_values) order
  pub rising : AllPairs (λ (p q : Position). p.x < q.x) order

-- points with the neighbours and the order that belong to them
pub record IsGeometry (x_values : List ℕ) (nearest : List Neighbours)
    (sorted : List Position) : Type 0
  where
    pub points : ArePoints x_values
    pub neighbours : nearest ≡ neighbours_of x_values
    pub order : AreInOrder x_values sorted

-- the fields of the points: the range, and the bins of those behind the first two
abbrev pub point_fields : List ℕ → List WrittenField
point_fields x_values =
    in_bits 4 (range_bits x_values) ++ flat_map (in_bits (range_bits x_values)) (drop 2 x_values)
