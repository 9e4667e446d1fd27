-- What a residue holds (Vorbis I, section 8.6.1).
use Rattle.std.specs.Prelude.{◌≡◌, ℕ, ◌^◌, ◌<◌, ◌≤◌, List, length, Option, IfSome, is_some, Bool, true, ◌&&◌, nat_lt, nat_le, slice_get}
use Rattle.std.specs.List.{All}
use Rattle.model_setup.specs.declared.residue.ResidueKind.{ResidueKind}
use Rattle.model_setup.specs.Codebook.{Codebook}

-- a residue: what part of each vector it covers (residue_begin to residue_end), in partitions of so
-- many values (residue_partition_size), the book of the words that name the classes of partitions
-- (residue_classbook), and of each class the book of each of eight passes, where it has one
-- (residue_books)
pub record ResidueSetup : Type 0 where
  pub kind : ResidueKind
  pub begin : ℕ
  pub end : ℕ
  pub partition_size : ℕ
  pub class_book : ℕ
  pub cascades : List (List (Option ℕ))

-- a book whose entries name the classes of as many partitions as it has dimensions, of so many
-- classes
abbrev pub names_classes : ℕ → Codebook → Bool
names_classes classes book =
    nat_lt 0 book.dimensions && nat_le (classes ^ book.dimensions) (length book.lengths)

-- a book whose entries have values
abbrev pub has_values : Codebook → Bool
has_values book = is_some book.lookup && nat_lt 0 book.dimensions

-- the book of a number is there, and serves
abbrev pub Serves : (Codebook → Bool) → List Codebook → ℕ → Type 0
Serves test books number =
    IfSome (slice_get books number) (λ book. test book ≡ true) × (number < length books)

-- a residue whose parts fit one another and the books of its setup
pub record FitsBooks (books : List Codebook) (residue : ResidueSetup) : Type 0 where
  pub begin : residue.begin < 2 ^ 24
  pub end : residue.end < 2 ^ 24
  pub some : 0 < residue.partition_size
  pub size : residue.partition_size ≤ 2 ^ 24
  pub some_class : 0 < length residue.cascades
  pub few_classes : length residue.cascades ≤ 64
  pub class_book : Serves (names_classes (length residue.cascades)) books residue.class_book
  pub passes : All (λ cascade. length cascade ≡ 8) residue.cascades
  pub value_books : All (All (λ named. IfSome named (Serves has_values books))) residue.cascades
