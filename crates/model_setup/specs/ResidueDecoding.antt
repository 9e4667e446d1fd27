-- The vectors that a residue decodes from an audio packet (Vorbis I, section 8.6.2), in units of
-- 2 ^ -16: the steps in which it reads, and what each step reads and adds. A class word names the
-- classes of a group of partitions, of as many as its book has dimensions: the standard's
-- classwords_per_codeword.
use Rattle.std.specs.Prelude.{ℕ, zero, suc, ◌+◌, ◌-◌, ◌*◌, ◌/◌, ◌%◌, ◌^◌, List, [], ◌∷◌, ◌++◌, length, take, drop, map, fold, replicate, Option, Some, None, Bool, true, false, if◌then◌else◌, ℤ, pos, ◌+ℤ◌, min, slice_get, slice_set, slice_index, slice_index_or, option_and_then}
use Rattle.std.specs.List.{range_with_len, flat_map, zip, list_any}
use Rattle.std.specs.Int.{div_ceil}
use Rattle.std.specs.Option.{option_map_or}
use Rattle.model_fixed.specs.Fixed.{limited}
use Rattle.model_setup.specs.declared.residue.ResidueKind.{ResidueKind}
use Rattle.model_setup.specs.declared.residue.ResidueKind.TheVariants.{Spread, InRow, Interleaved}
use Rattle.model_setup.specs.Codebook.{Codebook}
use Rattle.model_setup.specs.Codewords.{entry_at}
use Rattle.model_setup.specs.Vectors.{vector_at}
use Rattle.model_setup.specs.ResidueSetup.{ResidueSetup}

-- ---- the steps

-- a step reads the class word of a vector for a group of partitions, or what a pass adds to a
-- partition of a vector
pub data Step : Type 0 where
  Word : (group vector : ℕ) → Step
  Part : (pass partition vector : ℕ) → Step

-- a step for each wanted vector, in order
abbrev pub each_wanted : List Bool → (ℕ → Step) → List Step
each_wanted wanted step =
    flat_map (λ vector. if slice_index_or wanted vector false then step vector ∷ []
    else []) (range_with_len 0 (length wanted))

-- class words are read in the first pass alone
abbrev pub words_of_group : List Bool → ℕ → ℕ → List Step
words_of_group wanted zero group = each_wanted wanted (Word group)
words_of_group wanted (suc pass) group = []

-- how many partitions a group has: those that a class word names, or those that are left
abbrev pub group_size : ℕ → ℕ → ℕ → ℕ
group_size partitions classwords group = min classwords (partitions - group * classwords)

abbrev pub group_partitions : ℕ → ℕ → ℕ → List ℕ
group_partitions partitions classwords group =
    range_with_len (group * classwords) (group_size partitions classwords group)

unfoldable pub group_steps : ℕ → ℕ → List Bool → ℕ → ℕ → List Step
group_steps partitions classwords wanted pass group =
    words_of_group wanted pass group
    ++ flat_map (λ partition. each_wanted wanted (Part pass partition))
    (group_partitions partitions classwords group)

unfoldable pub pass_steps : ℕ → ℕ → List Bool → ℕ → List Step
pass_steps partitions classwords wanted pass =
    flat_map (group_steps partitions classwords wanted pass)
    (range_with_len 0 (div_ceil partitions classwords))

-- all steps for so many partitions, in groups of which a class word names the classes
unfoldable pub steps : ℕ → ℕ → List Bool → List Step
steps partitions classwords wanted =
    flat_map (pass_steps partitions classwords wanted) (range_with_len 0 8)

-- ---- what a step reads

-- what was decoded so far: the vectors, the classes of their partitions (a row for each vector, as
-- long as its partitions), the bits that are left, and whether the packet goes on
pub record Decoding : Type 0 where
  pub vectors : List (List ℤ)
  pub classes : List ℕ
  pub left : List Bool
  pub going : Bool

-- the packet has ended: what was decoded is kept
abbrev pub cut_short : Decoding → Decoding
cut_short d = record { vectors = d.vectors; classes = d.classes; left = []; going = false }

abbrev pub no_book : Codebook
no_book = record { dimensions = 0; lengths = []; lookup = None }

abbrev pub book_of : List Codebook → ℕ → Codebook
book_of books number = option_map_or (λ book. book) (slice_get books number) no_book

-- how many classes a class word names (classwords_per_codeword)
abbrev pub classwords_of : List Codebook → ResidueSetup → ℕ
classwords_of books residue = (book_of books residue.class_book).dimensions

-- how many partitions a residue has in vectors of so many values (partitions_to_read)
abbrev pub partition_count : ResidueSetup → ℕ → ℕ
partition_count residue size =
    (min residue.end size - min residue.begin size) / residue.partition_size

-- the first of the classes that a word names, so many: the word is a number of as many digits as it
-- names classes, in the base of the classes, the last one the lowest
abbrev pub classes_in : ℕ → ℕ → ℕ → ℕ → List ℕ
classes_in base classwords count word =
    map (λ k. word / base ^ (classwords - 1 - k) % base) (range_with_len 0 count)

-- the classes that a word names for the partitions that its group has
abbrev pub classes_of_group : List Codebook → ResidueSetup → ℕ → ℕ → ℕ → List ℕ
classes_of_group books residue size group word =
    let classwords = classwords_of books residue in
    classes_in (length residue.cascades) classwords
    (group_size (partition_count residue size) classwords group) word

-- a list with other items from a place on
abbrev pub overwritten : {X : Type 0} → List X → ℕ → List X → List X
overwritten xs from new = take from xs ++ new ++ drop (from + length new) xs

abbrev pub with_word : List Codebook → ResidueSetup → ℕ → ℕ → ℕ → Decoding → Option (ℕ × List Bool)
    → Decoding
with_word books residue size group vector d None = cut_short d
with_word books residue size group vector d (Some read) =
    let partition = group * classwords_of books residue in
    record {
      vectors = d.vectors;
      classes = overwritten d.classes (vector * partition_count residue size + partition)
          (classes_of_group books residue size group read.0);
      left = read.1;
      going = true;
    }

-- a term is added at a place; the sum is limited
abbrev pub add_to : List ℤ → ℕ × ℤ → List ℤ
add_to values term = slice_set values term.0
    (limited (slice_index_or values term.0 (pos 0) +ℤ term.1))

-- the values of a vector are added, each at its place
abbrev pub add_all : List ℤ → List ℕ → List ℤ → List ℤ
add_all values places terms = fold add_to values (zip places terms)

-- the places that each reading of a partition from a first place on adds to: values that are spread
-- stand at steps of as many places as there are readings (section 8.6.3)
abbrev pub spread_places : ℕ → ℕ → ℕ → List (List ℕ)
spread_places first size dimensions =
    let readings = size / dimensions in
    map (λ i. map (λ j. first + i + j * readings) (range_with_len 0 dimensions))
    (range_with_len 0 readings)

-- values in a row stand one behind the other, and those past the partition are dropped (section
-- 8.6.4)
abbrev pub row_places : ℕ → ℕ → ℕ → List (List ℕ)
row_places first size dimensions =
    map (λ i. map (λ j. first + i * dimensions + j)
    (range_with_len 0 (min dimensions (size - i * dimensions))))
    (range_with_len 0 (div_ceil size dimensions))

unfoldable pub reading_places : ResidueKind → ℕ → ℕ → ℕ → List (List ℕ)
reading_places Spread first size dimensions = spread_places first size dimensions
reading_places InRow first size dimensions = row_places first size dimensions
reading_places Interleaved first size dimensions = row_places first size dimensions

abbrev pub vector_in : List (List ℤ) → ℕ → List ℤ
vector_in vectors vector = slice_index_or vectors vector []

abbrev pub with_values : ℕ → Decoding → List ℕ → Option (List ℤ × List Bool) → Decoding
with_values vector d places None = cut_short d
with_values vector d places (Some read) =
    record {
      vectors = slice_set d.vectors vector
          (add_all (vector_in d.vectors vector) places read.0);
      classes = d.classes;
      left =
          read.1;
      going = true;
    }

-- one reading of a partition: an entry's values are added at these places
unfoldable pub after_reading : Codebook → ℕ → Decoding → List ℕ → Decoding
after_reading book vector d places =
    if d.going then with_values vector d places (vector_at book d.left) else d

abbrev pub with_part : List Codebook → ResidueSetup → ℕ → ℕ → Decoding → Option ℕ → Decoding
with_part books residue partition vector d None = d
with_part books residue partition vector d (Some number) =
    let book = book_of books number in
    fold (after_reading book vector) d
    (reading_places residue.kind (residue.begin + partition * residue.partition_size)
    residue.partition_size book.dimensions)

-- the book of a class in a pass, if it has one there
abbrev pub pass_book : ResidueSetup → ℕ → ℕ → Option ℕ
pass_book residue class pass =
    option_and_then (λ named. named) (slice_get (slice_index_or residue.cascades class []) pass)

-- a step of a residue over vectors of so many values
unfoldable pub after_step : List Codebook → ResidueSetup → ℕ → Decoding → Step → Decoding
after_step books residue size d (Word group vector) =
    if d.going then with_word books residue size group vector d
    (entry_at (book_of books residue.class_book).lengths d.left) else d
after_step books residue size d (Part pass partition vector) =
    with_part books residue partition vector d
    (pass_book residue
    (slice_index d.classes (vector * partition_count residue size + partition)) pass)

-- ---- the vectors

-- what is decoded into vectors of so many values
unfoldable pub decoded_from : List Codebook → ResidueSetup → ℕ → List Bool → Decoding → Decoding
decoded_from books residue size wanted d =
    fold (after_step books residue size) d
    (steps (partition_count residue size) (classwords_of books residue) wanted)

-- at the beginning all values are 0, and no class was read
abbrev pub start : ResidueSetup → ℕ → ℕ → List Bool → Decoding
start residue size count left =
    record {
      vectors = replicate count (replicate size (pos 0));
      classes = replicate (count * partition_count residue size) 0;
      left = left;
      going = true;
    }

-- vector j of so many that are interleaved in one: every so manyth value, from value j on
abbrev pub channel_of : List ℤ → ℕ → ℕ → ℕ → List ℤ
channel_of together count size j =
    map (λ i. slice_index_or together (i * count + j) (pos 0)) (range_with_len 0 size)

-- interleaved vectors are read if one of them is wanted
abbrev pub any_wanted : List Bool → List Bool
any_wanted wanted = list_any (λ w. w) wanted ∷ []

abbrev pub separated : ℕ → ℕ → Decoding → List (List ℤ) × List Bool
separated count size d = (
  map (channel_of (vector_in d.vectors 0) count size)
      (range_with_len 0 count),
  d.left,
)

abbrev pub outcome : Decoding → List (List ℤ) × List Bool
outcome d = (d.vectors, d.left)

abbrev pub by_kind : ResidueKind → List Codebook → ResidueSetup → ℕ → List Bool → List Bool
    → List (List ℤ) × List Bool
by_kind Interleaved books residue size wanted left =
    let all = size * length wanted in
    separated (length wanted) size
    (decoded_from books residue all (any_wanted wanted) (start residue all 1 left))
by_kind kind books residue size wanted left =
    outcome (decoded_from books residue size wanted (start residue size (length wanted) left))

-- the vectors, one for each that is wanted or not, of so many values, and the bits after them
unfoldable pub residue_vectors : List Codebook → ResidueSetup → ℕ → List Bool → List Bool
    → List (List ℤ) × List Bool
residue_vectors books residue size wanted left = by_kind residue.kind books residue size wanted left
