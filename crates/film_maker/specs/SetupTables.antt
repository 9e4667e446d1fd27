-- The made setups as the program puts their fields (Vorbis I, section 4.2.4).
use Rattle.std.specs.Prelude.{ℕ, ◌^◌, ◌<◌, ◌≤◌, List, [], ◌∷◌, ◌++◌, map, Bool, codes}
use Rattle.std.specs.List.{flat_map}
use Rattle.model_bits.specs.Writing.{WrittenField, bits_of_fields, in_bits}
use Rattle.model_setup.specs.ResidueSetup.{ResidueSetup}
use Rattle.model_writing.specs.SetupWriting.{counted_fields, book_fields, residue_type, residue_fields, mapping_fields, setup_fields}
use Rattle.model_trial.specs.MadeSetup.{floor_book, class_book, pair_book, fine_book, made_residue, made_mapping, made_setup}

-- a number and how many bits it has, where it has a place in them
pub record IsField (field : ℕ × ℕ) : Type 0 where
  pub width : field.1 ≤ 32
  pub number : field.0 < 2 ^ field.1

abbrev pub field_of : ℕ × ℕ → WrittenField
field_of field = record { number = field.0; width = field.1 }

-- the bits of a table of fields
unfoldable pub table_bits : List (ℕ × ℕ) → List Bool
table_bits fields = bits_of_fields (map field_of fields)

-- the bits of the packet's type and of the codebooks
unfoldable pub book_bits : List Bool
book_bits = bits_of_fields (flat_map (in_bits 8) (5 ∷ codes "vorbis")
    ++ counted_fields 8 book_fields (floor_book ∷ class_book ∷ pair_book ∷ fine_book ∷ []))

-- the bits of the residue of so many channels
unfoldable pub residue_bits : ℕ → List Bool
residue_bits channels = bits_of_fields (counted_fields 6
    (λ (residue : ResidueSetup). in_bits 16 (residue_type residue.kind) ++ residue_fields residue)
    (made_residue channels ∷ []))

-- the bits of the mapping of so many channels
unfoldable pub mapping_bits : ℕ → List Bool
mapping_bits channels =
    bits_of_fields (counted_fields 6 mapping_fields (made_mapping channels ∷ []))

-- the bits of the setup of so many channels
unfoldable pub setup_bits : ℕ → List Bool
setup_bits channels = bits_of_fields (setup_fields (made_setup channels))
