-- The values of the partitions, one partition after the other.
use Rattle.std.proofs.Common.{◌≡◌, ℕ, suc, ◌+◌, ◌<◌, ◌≤◌, List, [], ◌∷◌, ◌++◌, length, get_or, drop, drop-cons, Some, Result, Ok, Err, Bool, refl, ap, sym, ◌∙◌, append_assoc, add-one}
use Rattle.std.specs.Prelude.{sum_by, slice_get}
use Rattle.std.specs.List.{All, flat_map}
use Rattle.std.specs.Option.{option_map_or}
use Rattle.std.proofs.lemmas.List.{append-nil, drop_all}
use Rattle.std.proofs.lemmas.List.Sums.{sum_by-drop_more}
use Rattle.std.proofs.lemmas.Option.{slice_get-get_or}
use Rattle.model_bits.specs.Reading.{each, then_read, give, with_front}
use Rattle.model_setup.specs.Codebook.{Codebook}
use Rattle.model_setup.specs.FloorSetup.{FloorClass, FloorSetup, dimensions_of}
use Rattle.model_setup.specs.FloorPacket.{partition_values_at, class_of, no_class}
use Rattle.floor_one.specs.Curves.{flattened}

same_read : {E A : Type 0} (reading : Result (List A × List Bool) E) (r s : List A × List Bool) → reading ≡ Ok r → reading ≡ Ok s → r ≡ s
same_read reading r s e f = cc

regroup : {E A : Type 0} (front items : List A) (reading : Result (List (List A) × List Bool) E) → with_front front (flattened (then_read reading (λ others. give (items ∷ others)))) ≡ with_front (front ++ items) (flattened reading)
regroup front items (Ok read) = ap (λ ns. Ok (ns, read.1)) (sym (append_assoc front items (flat_map (λ ys. ys) read.0)))
regroup front items (Err e) = refl

module _ {E X A : Type 0} (m : X → List Bool → Result (List A × List Bool) E) (front : List A) (items : List X) where
  one_more : (more : List A) (after : List Bool) (reading : Result (List A × List Bool) E) → with_front front reading ≡ Ok (more, after)
      → with_front front (flattened (then_read reading (λ y left. then_read (each m items left) (λ ys. give (y ∷ ys))))) ≡ with_front more (flattened (each m items after))
  one_more more after (Ok read) h =
      let same = same_read (with_front front (Ok read)) (front ++ read.0, read.1) (more, after) refl h in
      let e : front ++ read.0 ≡ more = ap (λ r. r.0) same in
      let f : read.1 ≡ after = ap (λ r. r.1) same in
      regroup front read.0 (each m items read.1) ∙ ap (λ left. with_front (front ++ read.0) (flattened (each m items left))) f ∙ ap (λ ns. with_front ns (flattened (each m items after))) e
  one_more more after (Err e) h = absurd (cc)

module _ {E X A : Type 0} (m : X → List Bool → Result (List A × List Bool) E) (front : List A) (items : List X) (i : ℕ) (d : X) (left : List Bool) (total : Result (List A × List Bool) E)
    (so_far : with_front front (flattened (each m (drop i items) left)) ≡ total) where
  pub joined_goes_on : (more : List A) (after : List Bool) → i < length items → with_front front (m (get_or items i d) left) ≡ Ok (more, after) → with_front more (flattened (each m (drop (i + 1) items) after)) ≡ total
  joined_goes_on more after lt h =
      let k : drop i items ≡ get_or items i d ∷ drop (suc i) items = drop-cons items i d lt in
      let one : with_front front (flattened (each m (drop i items) left)) ≡ with_front more (flattened (each m (drop (suc i) items) after)) = rw k (one_more m front (drop (suc i) items) more after (m (get_or items i d) left) h) in
      rw add-one (sym one ∙ so_far)

  pub joined_fails : (e : E) → i < length items → m (get_or items i d) left ≡ Err e → total ≡ Err e
  joined_fails e lt h =
      let k : drop i items ≡ get_or items i d ∷ drop (suc i) items = drop-cons items i d lt in
      let one : with_front front (flattened (each m (drop i items) left)) ≡ Err e = rw (k, h) refl in
      sym so_far ∙ one

  pub joined_ends : length items ≤ i → total ≡ Ok (front, left)
  joined_ends le =
      let k : drop i items ≡ [] = drop_all i items le in
      let one : with_front front (flattened (each m (drop i items) left)) ≡ Ok (front, left) = rw k (ap (λ ns. Ok (ns, left)) (append-nil front)) in
      sym so_far ∙ one

pub joined_front_fails : {E A : Type 0} (front : List A) (reading : Result (List (List A) × List Bool) E) (e : E) → with_front front (flattened reading) ≡ Err e → reading ≡ Err e
joined_front_fails front (Ok read) e h = absurd (cc)
joined_front_fails front (Err f) e h = cc

-- the values of all partitions behind the first two
pub behind_two : (first second : ℕ) (reading : Result (List (List ℕ) × List Bool) (Unit {0})) → then_read reading (λ others. give (first ∷ second ∷ flat_map (λ values. values) others)) ≡ with_front (first ∷ second ∷ []) (flattened reading)
behind_two first second (Ok read) = refl
behind_two first second (Err e) = refl

-- ---- the partition of a number

-- the reading of a partition
abbrev pub partition_reading : List Codebook → FloorSetup → ℕ → List Bool → Result (List ℕ × List Bool) (Unit {0})
partition_reading books floor class = partition_values_at books (class_of floor class)

module _ (floor : FloorSetup) (numbers : List ℕ) (classes : List FloorClass) (i number : ℕ) (class : FloorClass) (numbers_are : numbers ≡ floor.partitions) (classes_are : classes ≡ floor.classes)
    (named : All (λ class. class < length floor.classes) floor.partitions) (in_numbers : i < length numbers) (number_is : number ≡ get_or numbers i 0) (class_is : class ≡ get_or classes number class) where
  pub within : i < length floor.partitions
  within = rw (← numbers_are) in_numbers

  number_at : get_or floor.partitions i 0 ≡ number
  number_at = sym (number_is ∙ ap (λ l. get_or l i 0) numbers_are)

  class_at : slice_get floor.classes (get_or floor.partitions i 0) ≡ Some class
  class_at =
      let named_here : get_or floor.partitions i 0 < length floor.classes = named i 0 within in
      let below : number < length floor.classes = rw (← number_at) named_here in
      ap (slice_get floor.classes) number_at ∙ slice_get-get_or floor.classes number class below ∙ ap Some (sym (class_is ∙ ap (λ l. get_or l number class) classes_are))

  pub class_here : class_of floor (get_or floor.partitions i 0) ≡ class
  class_here = ap (λ o. option_map_or (λ (c : FloorClass). c) o no_class) class_at

  pub sizes : sum_by (dimensions_of floor.classes) (drop i floor.partitions) ≡ class.dimensions + sum_by (dimensions_of floor.classes) (drop (i + 1) floor.partitions)
  sizes =
      sum_by-drop_more (dimensions_of floor.classes) floor.partitions i 0 within
      ∙ ap (λ o. option_map_or (λ (c : FloorClass). c.dimensions) o 0 + sum_by (dimensions_of floor.classes) (drop (i + 1) floor.partitions)) class_at

  module _ (books : List Codebook) (left0 left : List Bool) (front0 front : List ℕ)
      (so_far : with_front front (flattened (each (partition_reading books floor) (drop i floor.partitions) left)) ≡ with_front front0 (flattened (each (partition_reading books floor) floor.partitions left0))) where
    pub partition_read : (more : List ℕ) (after : List Bool) → with_front front (partition_values_at books class left) ≡ Ok (more, after)
        → with_front more (flattened (each (partition_reading books floor) (drop (i + 1) floor.partitions) after)) ≡ with_front front0 (flattened (each (partition_reading books floor) floor.partitions left0))
    partition_read more after h =
        joined_goes_on (partition_reading books floor) front floor.partitions i 0 left _ so_far more after within (ap (λ k. with_front front (partition_values_at books k left)) class_here ∙ h)

    pub partition_ends : partition_values_at books class left ≡ Err tt → each (partition_reading books floor) floor.partitions left0 ≡ Err tt
    partition_ends h =
        joined_front_fails front0 (each (partition_reading books floor) floor.partitions left0) tt
        (joined_fails (partition_reading books floor) front floor.partitions i 0 left _ so_far tt within (ap (λ k. partition_values_at books k left) class_here ∙ h))
