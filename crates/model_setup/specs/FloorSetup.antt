-- What a floor of type 1 holds (Vorbis I, section 7.2.2).
use Rattle.std.specs.Prelude.{◌≡◌, ◌≢◌, ℕ, ◌+◌, ◌^◌, ◌<◌, ◌≤◌, List, [], ◌∷◌, length, Option, IfSome, is_some, Bool, true, not, ◌&&◌, ◌==◌, nat_lt, max, sum_by, slice_get, slice_index}
use Rattle.std.specs.List.{All, list_any}
use Rattle.model_setup.specs.declared.floor.TheConstants.{MOST_POINTS}
use Rattle.std.specs.Option.{option_map_or}

-- a class of partitions: how many values a partition has, two to how many there are of subclasses,
-- the book of the word that names the subclasses of a partition's values, where there are several,
-- and the book of each subclass, where it has one
pub record FloorClass : Type 0 where
  pub dimensions : ℕ
  pub subclass_bits : ℕ
  pub master : Option ℕ
  pub books : List (Option ℕ)

-- a floor: the class of each partition, the classes, the multiplier of its values, and the
-- bin of the spectrum at which each point stands (the list of X values)
pub record FloorSetup : Type 0 where
  pub partitions : List ℕ
  pub classes : List FloorClass
  pub multiplier : ℕ
  pub x_values : List ℕ

-- how many classes there are, where partitions have these: as many as the greatest of them needs
abbrev pub class_count : List ℕ → ℕ
class_count [] = 0
class_count (class ∷ partitions) = max (class + 1) (class_count partitions)

-- how many values a partition of a class has
abbrev pub dimensions_of : List FloorClass → ℕ → ℕ
dimensions_of classes class =
    option_map_or (λ (c : FloorClass). c.dimensions) (slice_get classes class) 0

-- how many values all partitions have together
abbrev pub value_count : List FloorClass → List ℕ → ℕ
value_count classes partitions = sum_by (dimensions_of classes) partitions

-- no number stands twice
abbrev pub is_distinct : List ℕ → Bool
is_distinct [] = true
is_distinct (x ∷ xs) = not (list_any (λ y. y == x) xs) && is_distinct xs

-- where the points of a floor stand: the first at bin 0, the second behind all others, and no two
-- at one bin
pub record ArePoints (x_values : List ℕ) : Type 0 where
  pub two : 2 ≤ length x_values
  pub few : length x_values ≤ MOST_POINTS
  pub first : slice_index x_values 0 ≡ 0
  pub second : (i : ℕ) → i < length x_values → i ≢ 1
      → slice_index x_values i < slice_index x_values 1
  pub within : slice_index x_values 1 < 2 ^ 16
  pub apart : (i j : ℕ) → i < length x_values → j < length x_values
      → slice_index x_values i ≡ slice_index x_values j → i ≡ j

-- a class whose parts fit one another
pub record IsFloorClass (class : FloorClass) : Type 0 where
  pub some : 0 < class.dimensions
  pub few : class.dimensions ≤ 8
  pub subclasses : class.subclass_bits < 4
  pub named : is_some class.master ≡ nat_lt 0 class.subclass_bits
  pub books : length class.books ≡ 2 ^ class.subclass_bits

-- a floor whose parts fit one another
pub record IsFloor (floor : FloorSetup) : Type 0 where
  pub partitions : All (λ class. class < length floor.classes) floor.partitions
  pub classes : All IsFloorClass floor.classes
  pub at_least_1 : 1 ≤ floor.multiplier
  pub at_most_4 : floor.multiplier ≤ 4
  pub points : ArePoints floor.x_values
  pub counted : length floor.x_values ≡ value_count floor.classes floor.partitions + 2

-- a class all of whose books are among so many
pub record NamesBooks (books : ℕ) (class : FloorClass) : Type 0 where
  pub master : IfSome class.master (λ book. book < books)
  pub subclasses : All (λ named. IfSome named (λ book. book < books)) class.books

-- a floor all of whose books are among so many
abbrev pub FloorNamesBooks : ℕ → FloorSetup → Type 0
FloorNamesBooks books floor = All (NamesBooks books) floor.classes
