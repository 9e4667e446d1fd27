-- How many classes a floor has, and how many values its partitions.
use Rattle.std.proofs.Common.{◌≡◌, ℕ, zero, suc, ◌<◌, ◌≤◌, List, [], ◌∷◌, length, get_or, ◌+◌, sym, ap, ◌∙◌, arith}
use Rattle.std.specs.List.{All}
use Rattle.model_setup.specs.FloorSetup.{FloorClass, IsFloorClass, class_count, dimensions_of, value_count}

pub dimensions_at : (classes : List FloorClass) (i : ℕ) (class : FloorClass) → i < length classes → class ≡ get_or classes i class → dimensions_of classes i ≡ class.dimensions
dimensions_at [] i class l e = absurd (omega arith)
dimensions_at (first ∷ classes) zero class l e = ap (λ (c : FloorClass). c.dimensions) (sym e)
dimensions_at (first ∷ classes) (suc i) class l e = dimensions_at classes i class (omega arith) e

pub dimensions_few : (classes : List FloorClass) (i : ℕ) (class : FloorClass) → All IsFloorClass classes → i < length classes → class ≡ get_or classes i class → class.dimensions ≤ 8
dimensions_few classes i class all l e = let few = (all i class l).few in rw (← e) at few

-- each class is one of those that its partitions need
pub within_count : (partitions : List ℕ) → All (λ class. class < class_count partitions) partitions
within_count [] k d l = absurd (omega arith)
within_count (class ∷ partitions) zero d l = omega arith
within_count (class ∷ partitions) (suc k) d l = let h = within_count partitions k d (omega arith) in omega arith

-- the same where they were passed on and counted
pub named_from : (partitions passed : List ℕ) (counted count : ℕ) → passed ≡ partitions → counted ≡ class_count passed → count ≡ counted → All (λ class. class < count) partitions
named_from partitions passed counted count same e f =
    let all : count ≡ class_count partitions = f ∙ e ∙ ap class_count same in
    rw all (within_count partitions)

pub counted_from : (partitions partitions_passed : List ℕ) (classes classes_passed : List FloorClass) (counted count : ℕ) → partitions_passed ≡ partitions → classes_passed ≡ classes
    → counted ≡ value_count classes_passed partitions_passed → count ≡ counted + 2 → count ≡ value_count classes partitions + 2
counted_from partitions partitions_passed classes classes_passed counted count e f g h =
    h ∙ ap (λ n. n + 2) (g ∙ ap (λ ps. value_count classes_passed ps) e ∙ ap (λ (cs : List FloorClass). value_count cs partitions) f)
