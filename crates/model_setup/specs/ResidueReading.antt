-- A residue as its bits stand in a setup packet (Vorbis I, section 8.6.1), with the first cause of
-- a refusal in reading order.
use Rattle.std.specs.Prelude.{ℕ, ◌+◌, ◌*◌, ◌/◌, ◌%◌, ◌^◌, List, Option, Some, None, Bool, false, ◌==◌, if◌then◌else◌, slice_get}
use Rattle.std.specs.List.{range_with_len}
use Rattle.std.specs.Option.{option_map_or}
use Rattle.model_bits.specs.Reading.{Reading, ◌>>=◌, ◌>>◌, give, refuse, require, bits, times, each}
use Rattle.model_setup.specs.declared.residue.ResidueKind.{ResidueKind}
use Rattle.model_setup.specs.declared.residue.ResidueKind.TheVariants.{Spread, InRow, Interleaved}
use Rattle.model_setup.specs.declared.residue.ResidueFault.{ResidueFault}
use Rattle.model_setup.specs.declared.residue.ResidueFault.TheVariants as causes
use Rattle.model_setup.specs.Codebook.{Codebook}
use Rattle.model_setup.specs.ResidueSetup.{ResidueSetup, names_classes, has_values}

abbrev pub residue_field : ℕ → Reading ResidueFault ℕ
residue_field count = bits causes.End count

-- the kind that a type's number names; no bit is read
abbrev pub kind_at : ℕ → Reading ResidueFault ResidueKind
kind_at number =
    if number == 0 then give Spread
    else if number == 1 then give InRow
    else if number == 2 then give Interleaved
    else refuse causes.Kind

-- whether a book is there and meets a test
abbrev pub serves : (Codebook → Bool) → List Codebook → ℕ → Bool
serves test books number = option_map_or test (slice_get books number) false

-- the number of a book that meets a test
unfoldable pub serving_book_at : (Codebook → Bool) → List Codebook → Reading ResidueFault ℕ
serving_book_at test books = do
  number ← residue_field 8
  require (serves test books number) causes.Book
  give number

-- in which of eight passes a class has a book (residue_cascade): bit k of this number stands for
-- pass k
unfoldable pub pass_flags_at : Reading ResidueFault ℕ
pass_flags_at = do
  low ← residue_field 3
  flag ← residue_field 1
  high ← (if flag == 1 then residue_field 5 else give 0)
  give (8 * high + low)

-- a class's book in a pass, if it has one there
unfoldable pub pass_book_at : List Codebook → ℕ → ℕ → Reading ResidueFault (Option ℕ)
pass_book_at books flags pass =
    if flags / 2 ^ pass % 2 == 1
    then (do
      number ← serving_book_at has_values books
      give (Some number))
    else give None

unfoldable pub cascade_at : List Codebook → ℕ → Reading ResidueFault (List (Option ℕ))
cascade_at books flags = each (pass_book_at books flags) (range_with_len 0 8)

-- of so many classes first the flags of all, and then the books of all
unfoldable pub cascades_at : List Codebook → ℕ → Reading ResidueFault (List (List (Option ℕ)))
cascades_at books classes = do
  flags ← times classes pass_flags_at
  each (cascade_at books) flags

-- a residue of a type, in a setup of these books
unfoldable pub residue_at : ℕ → List Codebook → Reading ResidueFault ResidueSetup
residue_at number books = do
  kind ← kind_at number
  begin ← residue_field 24
  end ← residue_field 24
  size ← residue_field 24
  classes ← residue_field 6
  class_book ← serving_book_at (names_classes (classes + 1)) books
  cascades ← cascades_at books (classes + 1)
  give (record {
    kind = kind;
    begin = begin;
    end = end;
    partition_size = size + 1;
    class_book = class_book;
    cascades = cascades;
  })
