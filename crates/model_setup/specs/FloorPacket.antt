-- The values of a floor's points as they stand in an audio packet (Vorbis I, section 7.2.3).
use Rattle.std.specs.Prelude.{ℕ, ◌-◌, ◌/◌, ◌%◌, ◌^◌, List, [], ◌∷◌, Option, Some, None, Result, Ok, Err, Bool, ◌==◌, if◌then◌else◌, slice_get, option_and_then}
use Rattle.std.specs.List.{range_with_len, flat_map}
use Rattle.std.specs.Option.{option_map_or}
use Rattle.model_bits.specs.Reading.{PacketReading, ◌>>=◌, give, or_end, packet_bits, each}
use Rattle.model_setup.specs.Codebook.{Codebook}
use Rattle.model_setup.specs.Codewords.{entry_at}
use Rattle.model_setup.specs.BookReading.{ilog}
use Rattle.model_setup.specs.FloorSetup.{FloorClass, FloorSetup}

-- the lengths of a book's codewords, by the book's number
abbrev pub lengths_of : List Codebook → ℕ → List (Option ℕ)
lengths_of books book = option_map_or (λ (b : Codebook). b.lengths) (slice_get books book) []

-- an entry of a book
abbrev pub book_entry_at : List Codebook → ℕ → PacketReading ℕ
book_entry_at books book left = or_end tt (entry_at (lengths_of books book) left)

-- an entry of a book, or 0 where there is none
unfoldable pub entry_or_0_at : List Codebook → Option ℕ → PacketReading ℕ
entry_or_0_at books None = give 0
entry_or_0_at books (Some book) = book_entry_at books book

-- the book of value j of a partition: digit j of its class word, the lowest first, in the base of
-- the number of subclasses, is the value's subclass
abbrev pub book_of_value : FloorClass → ℕ → ℕ → Option ℕ
book_of_value class word j =
    let subclasses = 2 ^ class.subclass_bits in
    option_and_then (λ named. named) (slice_get class.books (word / subclasses ^ j % subclasses))

-- the values of a partition of a class: its class word, and an entry for each value
unfoldable pub partition_values_at : List Codebook → FloorClass → PacketReading (List ℕ)
partition_values_at books class = do
  word ← entry_or_0_at books class.master
  each (λ j. entry_or_0_at books (book_of_value class word j)) (range_with_len 0 class.dimensions)

-- no class, which has no values
abbrev pub no_class : FloorClass
no_class = record { dimensions = 0; subclass_bits = 0; master = None; books = [] }

abbrev pub class_of : FloorSetup → ℕ → FloorClass
class_of floor class = option_map_or (λ c. c) (slice_get floor.classes class) no_class

-- the number of heights that a value may have
abbrev pub range_of : ℕ → ℕ
range_of multiplier =
    if multiplier == 1 then 256
    else if multiplier == 2 then 128
    else if multiplier == 3 then 86
    else 64

-- the value of each point: the first two as plain numbers, then those of the partitions in order
unfoldable pub y_values_at : List Codebook → FloorSetup → PacketReading (List ℕ)
y_values_at books floor = do
  first ← packet_bits (ilog (range_of floor.multiplier - 1))
  second ← packet_bits (ilog (range_of floor.multiplier - 1))
  others ← each (λ class. partition_values_at books (class_of floor class)) floor.partitions
  give (first ∷ second ∷ flat_map (λ values. values) others)

-- the values, if the bit before them says that there are some
abbrev pub values_if : List Codebook → FloorSetup → ℕ → PacketReading (Option (List ℕ))
values_if books floor nonzero =
    if nonzero == 1
    then (do
      values ← y_values_at books floor
      give (Some values))
    else give None

unfoldable pub nonzero_values_at : List Codebook → FloorSetup → PacketReading (Option (List ℕ))
nonzero_values_at books floor = do
  nonzero ← packet_bits 1
  values_if books floor nonzero

-- a floor whose packet ends before its last value is unused, and no bit is left then
abbrev pub unused_at_end : Result (Option (List ℕ) × List Bool) (Unit {0})
    → Option (List ℕ) × List Bool
unused_at_end (Ok read) = read
unused_at_end (Err e) = (None, [])

-- the values of a floor's points, none where it is unused in this packet, and the bits after them
unfoldable pub floor_values : List Codebook → FloorSetup → List Bool → Option (List ℕ) × List Bool
floor_values books floor left = unused_at_end (nonzero_values_at books floor left)
