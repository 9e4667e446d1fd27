-- Setups as they are written, by computation: what is written is read as the same setup, and has the one form.
use Rattle.std.proofs.Common.{◌≡◌, ℕ, List, map, refl, [], ◌∷◌, ◌++◌, Some, None, Ok, true, false}
use Rattle.std.specs.Prelude.{replicate}
use lib.Count.{count_leading_zeros}
use Rattle.model_setup.specs.declared.book.LookupKind.TheVariants.{Lattice, Tessellation}
use Rattle.model_setup.specs.declared.residue.ResidueKind.TheVariants.{InRow}
use Rattle.model_setup.specs.Codewords.{size_of, first_free, words_behind, filled, book_words}
use Rattle.model_setup.specs.Vectors.{root_up_to, root_of}
use Rattle.model_setup.specs.BookReading.{front_at, length_at, entry_length_at, unordered_lengths_at, length_list_at, lengths_at, table_at, lookup_at, book_at}
use Rattle.model_setup.specs.FloorReading.{class_at, master_at, subclass_book_at, x_values_at, partition_classes_at, partitions_at, floor_at}
use Rattle.model_setup.specs.ResidueReading.{serving_book_at, pass_flags_at, pass_book_at, cascade_at, cascades_at, residue_at}
use Rattle.model_setup.specs.HeaderPackets.{bytes_at}
use Rattle.model_setup.specs.SetupPacket.{SetupFields, count_at, count_if_flagged_at, number_below_at, zero_at, next_book_at, books_at, times_at, numbered_floor_at, floors_at, numbered_residue_at, residues_at, coupling_at, couplings_at, mux_at, submap_at, mapping_at, mappings_at, mode_at, modes_at, framing_at, setup_at}
use Rattle.model_bits.specs.Writing.{WrittenField, bits_of_fields}
use Rattle.model_writing.specs.SetupWriting.{setup_fields, length_fields, lookup_fields, class_fields, cascade_fields, mapping_fields, mode_fields}

-- a sparse book, a floor with a class, a residue with a late pass, two submaps and a coupling step
varied_fields : SetupFields
varied_fields = record {
  books = record { dimensions = 1; lengths = Some 1 ∷ None ∷ Some 1 ∷ []; lookup = None }
      ∷ record {
        dimensions = 2;
        lengths = Some 1 ∷ Some 1 ∷ [];
        lookup = Some (record {
          kind = Lattice;
          minimum = 0x62400001;
          delta = 3;
          sequence = true;
          multiplicands = 7 ∷ [];
        });
      } ∷ [];
  floors = record {
    partitions = 0 ∷ [];
    classes = record { dimensions = 1; subclass_bits = 0; master = None; books = Some 1 ∷ [] } ∷ [];
    multiplier = 2;
    x_values = 0 ∷ 32 ∷ 9 ∷ [];
  } ∷ [];
  residues = record {
    kind = InRow;
    begin = 0;
    end = 8;
    partition_size = 4;
    class_book = 0;
    cascades = (None ∷ None ∷ None ∷ Some 1 ∷ replicate 4 None) ∷ [];
  } ∷ [];
  mappings = record {
    couplings = record { magnitude = 0; angle = 1 } ∷ [];
    mux = 1 ∷ 0 ∷ [];
    submaps = record { floor = 0; residue = 0 } ∷ record { floor = 0; residue = 0 } ∷ [];
  } ∷ [];
  modes = record { long = true; mapping = 0 } ∷ [];
}

reads_varied : setup_at 2 (bits_of_fields (setup_fields varied_fields) ++ true ∷ []) ≡ Ok (varied_fields, true ∷ [])
unfolding varied_fields count_leading_zeros size_of first_free words_behind filled book_words root_up_to root_of front_at length_at entry_length_at unordered_lengths_at length_list_at lengths_at table_at lookup_at book_at x_values_at partition_classes_at partitions_at floor_at serving_book_at pass_flags_at pass_book_at cascade_at cascades_at residue_at bytes_at count_at count_if_flagged_at number_below_at zero_at next_book_at books_at times_at numbered_floor_at floors_at numbered_residue_at residues_at coupling_at couplings_at mux_at submap_at mapping_at mappings_at mode_at modes_at framing_at setup_at class_at master_at subclass_book_at
reads_varied = refl

-- ---- the one form, field by field: each number and its width

abbrev these : List (ℕ × ℕ) → List WrittenField
these fields = map (λ f. record { number = f.0; width = f.1 }) fields

-- not ordered, and not sparse where each entry is used
full_lengths : length_fields (Some 2 ∷ Some 2 ∷ Some 1 ∷ []) ≡ these ((0, 1) ∷ (0, 1) ∷ (1, 5) ∷ (1, 5) ∷ (0, 5) ∷ [])
full_lengths = refl

-- sparse where one is unused
sparse_lengths : length_fields (Some 1 ∷ None ∷ Some 32 ∷ []) ≡ these ((0, 1) ∷ (1, 1) ∷ (1, 1) ∷ (0, 5) ∷ (0, 1) ∷ (1, 1) ∷ (31, 5) ∷ [])
sparse_lengths = refl

no_lookup : lookup_fields None ≡ these ((0, 4) ∷ [])
no_lookup = refl

-- multiplicands of 16 bits
tessellation : lookup_fields (Some (record { kind = Tessellation; minimum = 5; delta = 6; sequence = false; multiplicands = 7 ∷ 65535 ∷ [] }))
    ≡ these ((2, 4) ∷ (5, 32) ∷ (6, 32) ∷ (15, 4) ∷ (0, 1) ∷ (7, 16) ∷ (65535, 16) ∷ [])
tessellation = refl

-- a class with subclasses has a master's book, and a subclass without a book is 0
class_with_subclasses : class_fields (record { dimensions = 3; subclass_bits = 1; master = Some 4; books = None ∷ Some 0 ∷ [] })
    ≡ these ((2, 3) ∷ (1, 2) ∷ (4, 8) ∷ (0, 8) ∷ (1, 8) ∷ [])
class_with_subclasses = refl

-- the flags of passes 0 to 2, and of the others behind a flag where one of them has a book
early_passes : cascade_fields (Some 9 ∷ None ∷ Some 9 ∷ replicate 5 None) ≡ these ((5, 3) ∷ (0, 1) ∷ [])
early_passes = refl

late_passes : cascade_fields (Some 9 ∷ None ∷ None ∷ Some 9 ∷ None ∷ None ∷ None ∷ Some 9 ∷ []) ≡ these ((1, 3) ∷ (1, 1) ∷ (17, 5) ∷ [])
late_passes = refl

-- one submap and no coupling step: neither flag is set, and no channel names its submap
plain_mapping : mapping_fields (record { couplings = []; mux = 0 ∷ 0 ∷ []; submaps = record { floor = 1; residue = 2 } ∷ [] })
    ≡ these ((0, 16) ∷ (0, 1) ∷ (0, 1) ∷ (0, 2) ∷ (0, 8) ∷ (1, 8) ∷ (2, 8) ∷ [])
plain_mapping = refl

-- two submaps and one coupling step of three channels
varied_mapping : mapping_fields (record {
  couplings = record { magnitude = 2; angle = 0 } ∷ [];
  mux = 1 ∷ 0 ∷ 1 ∷ [];
  submaps = record { floor = 1; residue = 2 } ∷ record { floor = 0; residue = 3 } ∷ [];
}) ≡ these ((0, 16) ∷ (1, 1) ∷ (1, 4) ∷ (1, 1) ∷ (0, 8) ∷ (2, 2) ∷ (0, 2) ∷ (0, 2)
    ∷ (1, 4) ∷ (0, 4) ∷ (1, 4) ∷ (0, 8) ∷ (1, 8) ∷ (2, 8) ∷ (0, 8) ∷ (0, 8) ∷ (3, 8) ∷ [])
unfolding count_leading_zeros
varied_mapping = refl

long_mode : mode_fields (record { long = true; mapping = 3 }) ≡ these ((1, 1) ∷ (0, 16) ∷ (0, 16) ∷ (3, 8) ∷ [])
long_mode = refl
