-- A floor of type 1 as its bits stand in a setup packet (Vorbis I, section 7.2.2), with the first
-- cause of a refusal in reading order.
use Rattle.std.specs.Prelude.{ℕ, ◌+◌, ◌-◌, ◌^◌, List, ◌∷◌, Option, Some, None, ◌==◌, nat_le, nat_lt, if◌then◌else◌}
use Rattle.model_bits.specs.Reading.{Reading, ◌>>=◌, ◌>>◌, give, require, bits, times}
use Rattle.model_setup.specs.declared.floor.FloorFault.{FloorFault}
use Rattle.model_setup.specs.declared.floor.FloorFault.TheVariants as causes
use Rattle.model_setup.specs.declared.floor.TheConstants.{MOST_POINTS}
use Rattle.model_setup.specs.FloorSetup.{FloorClass, FloorSetup, class_count, value_count, is_distinct}

abbrev pub floor_field : ℕ → Reading FloorFault ℕ
floor_field count = bits causes.End count

-- the number of a book, which must be one of so many
unfoldable pub book_number_at : ℕ → Reading FloorFault ℕ
book_number_at books = do
  book ← floor_field 8
  require (nat_lt book books) causes.Book
  give book

-- the book of the class words, where there are subclasses
unfoldable pub master_at : ℕ → ℕ → Reading FloorFault (Option ℕ)
master_at books subclass_bits =
    if subclass_bits == 0
    then give None
    else (do
      book ← book_number_at books
      give (Some book))

-- the book of a subclass: 0 is none, and a greater number stands for the book before it
abbrev pub book_before : ℕ → Option ℕ
book_before number = if number == 0 then None else Some (number - 1)

unfoldable pub subclass_book_at : ℕ → Reading FloorFault (Option ℕ)
subclass_book_at books = do
  number ← floor_field 8
  require (nat_le number books) causes.Book
  give (book_before number)

unfoldable pub class_at : ℕ → Reading FloorFault FloorClass
class_at books = do
  dimensions ← floor_field 3
  subclass_bits ← floor_field 2
  master ← master_at books subclass_bits
  subclass_books ← times (2 ^ subclass_bits) (subclass_book_at books)
  give (record {
    dimensions = dimensions + 1;
    subclass_bits = subclass_bits;
    master = master;
    books = subclass_books;
  })

-- the bins of the points: 0, the end of the range, and so many others of so many bits
unfoldable pub x_values_at : ℕ → ℕ → Reading FloorFault (List ℕ)
x_values_at range_bits count = do
  require (nat_le (count + 2) MOST_POINTS) causes.List
  others ← times count (floor_field range_bits)
  require (is_distinct (0 ∷ 2 ^ range_bits ∷ others)) causes.List
  give (0 ∷ 2 ^ range_bits ∷ others)

-- the class of each partition
unfoldable pub partition_classes_at : Reading FloorFault (List ℕ)
partition_classes_at = do
  count ← floor_field 5
  times count (floor_field 4)

-- the class of each partition, and the classes
unfoldable pub partitions_at : ℕ → Reading FloorFault (List ℕ × List FloorClass)
partitions_at books = do
  partitions ← partition_classes_at
  classes ← times (class_count partitions) (class_at books)
  give (partitions, classes)

-- a floor in a setup of so many books
unfoldable pub floor_at : ℕ → Reading FloorFault FloorSetup
floor_at books = do
  front ← partitions_at books
  multiplier ← floor_field 2
  range_bits ← floor_field 4
  x_values ← x_values_at range_bits (value_count front.1 front.0)
  give (record {
    partitions = front.0;
    classes = front.1;
    multiplier = multiplier + 1;
    x_values = x_values;
  })
