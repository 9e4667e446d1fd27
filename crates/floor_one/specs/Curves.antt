-- What the calls that decode a floor say of their answers.
use Rattle.std.specs.Prelude.{◌≡◌, ℕ, ◌+◌, ◌<◌, ◌≤◌, ◌^◌, ℤ, unsigned_abs, List, [], ◌∷◌, ◌++◌, length, map, Option, Some, None, Result, Ok, Err, Bool, not, ◌&&◌, ◌||◌, ◌==◌, slice_index}
use Rattle.std.specs.List.{All, flat_map}
use Rattle.model_setup.specs.declared.floor.Final.{Final}
use Rattle.model_setup.specs.FloorCurve.{render_point, final_value, final_of}
use Rattle.floor_one.specs.declared.points.Neighbours.{Neighbours}
use Rattle.floor_one.specs.declared.finals.Floored.{Floored}
use Rattle.floor_one.specs.declared.finals.Floored.TheVariants as floored

-- the finals of a floor that is used
abbrev pub finals_seen : Floored → Option (List Final)
finals_seen floored.Unused = None
finals_seen (floored.Curve finals) = Some finals

-- finals that are far from the bounds of their numbers
abbrev pub AreSmall : List Final → Type 0
AreSmall finals = All (λ (f : Final). unsigned_abs f.value ≤ 2 ^ 24) finals

-- how many heights a value may have: 64 to 256 (Vorbis I, section 7.2.3)
pub record IsRange (range : ℕ) : Type 0 where
  pub some : 64 ≤ range
  pub few : range ≤ 256

-- two points before this one, at bins below and above its own
pub record AreNeighbours (x_values : List ℕ) (i : ℕ) (neighbours : Neighbours) : Type 0 where
  pub low_before : neighbours.low < i
  pub high_before : neighbours.high < i
  pub below : slice_index x_values neighbours.low < slice_index x_values i
  pub above : slice_index x_values i < slice_index x_values neighbours.high

-- the height of a point on the straight line between two points before it
abbrev pub height_between_neighbours : List ℕ → List Final → ℕ → ℕ → ℕ → ℤ
height_between_neighbours x_values finals i low high =
    render_point (slice_index x_values low) (final_of finals low).value (slice_index x_values high)
    (final_of finals high).value (slice_index x_values i)

-- whether a point whose value is this flags point k, being its neighbour
abbrev pub is_flagged_by : Neighbours → ℕ → ℕ → Bool
is_flagged_by neighbours y k = not (y == 0) && (neighbours.low == k || neighbours.high == k)

abbrev pub values_in : List Final → List ℤ
values_in finals = map (λ (f : Final). f.value) finals

-- the points so far and the next: its final value, and the flags that its own value sets
pub record AddsNext (x_values : List ℕ) (old new : List Final) (neighbours : Neighbours)
    (range y : ℕ) : Type 0
  where
    pub count : length new ≡ length old + 1
    pub values : values_in new
        ≡ values_in old
        ++ final_value range
        (height_between_neighbours x_values old (length old) neighbours.low neighbours.high) y ∷ []
    pub before : (k : ℕ) → k < length old
        → (final_of new k).flagged ≡ ((final_of old k).flagged || is_flagged_by neighbours y k)
    pub flag : (final_of new (length old)).flagged ≡ not (y == 0)

-- the lists that were read, as one
abbrev pub flattened : {E A : Type 0} → Result (List (List A) × List Bool) E
    → Result (List A × List Bool) E
flattened (Ok read) = Ok (flat_map (λ items. items) read.0, read.1)
flattened (Err e) = Err e
