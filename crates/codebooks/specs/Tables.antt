-- A table has the multiplicands that a book's entries name.
use Rattle.std.specs.Prelude.{◌≡◌, ℕ, ◌+◌, ◌*◌, ◌<◌, ◌≤◌, length, Option, IfSome}
use Rattle.model_setup.specs.declared.book.LookupKind.{LookupKind}
use Rattle.model_setup.specs.declared.book.LookupKind.TheVariants.{Lattice, Tessellation}
use Rattle.model_setup.specs.Codebook.{Lookup}
use Rattle.model_setup.specs.Vectors.{multiplicand_count}

-- for a book of so many dimensions and entries
pub record IsWholeTable (dimensions entries : ℕ) (lookup : Lookup) : Type 0 where
  pub some : 0 < dimensions
  pub count : length lookup.multiplicands ≡ multiplicand_count lookup.kind dimensions entries

abbrev pub IsWholeIfSome : ℕ → ℕ → Option Lookup → Type 0
IsWholeIfSome dimensions entries lookup = IfSome lookup (λ l. IsWholeTable dimensions entries l)

abbrev pub HasRoomFor : LookupKind → ℕ → ℕ → ℕ → Type 0
HasRoomFor Lattice count dimensions entry = 0 < count
HasRoomFor Tessellation count dimensions entry = entry * dimensions + dimensions ≤ count

-- the multiplicands of this entry are there
abbrev pub HasRoom : Lookup → ℕ → ℕ → Type 0
HasRoom lookup dimensions entry =
    HasRoomFor lookup.kind (length lookup.multiplicands) dimensions entry
