-- The one form in which a setup packet is written (Vorbis I, sections 3.2.1, 4.2.4, 7.2.2 and
-- 8.6.1): books are not ordered, and sparse exactly where an entry is unused; multiplicands have 16
-- bits; there is one time domain transform; a mapping has the flag of its submaps exactly where
-- there are several, and the flag of its coupling steps exactly where there is one; what readers
-- ignore is 0.
use Rattle.std.specs.Prelude.{ℕ, ◌+◌, ◌-◌, ◌*◌, ◌/◌, ◌%◌, ◌==◌, nat_lt, List, [], ◌∷◌, ◌++◌, length, drop, Option, Some, None, is_none, is_some, Bool, true, false, if◌then◌else◌, codes, slice_index}
use Rattle.std.specs.List.{flat_map, list_any}
use Rattle.model_bits.specs.Bits.{bit_value}
use Rattle.model_bits.specs.Writing.{WrittenField, in_bits, flag, count_in_bits, flagged_count, optional_byte}
use Rattle.model_setup.specs.declared.book.LookupKind.{LookupKind}
use Rattle.model_setup.specs.declared.book.LookupKind.TheVariants.{Lattice, Tessellation}
use Rattle.model_setup.specs.declared.residue.ResidueKind.{ResidueKind}
use Rattle.model_setup.specs.declared.residue.ResidueKind.TheVariants.{Spread, InRow, Interleaved}
use Rattle.model_setup.specs.Codebook.{Codebook, Lookup}
use Rattle.model_setup.specs.BookReading.{ilog}
use Rattle.model_setup.specs.FloorSetup.{FloorClass, FloorSetup}
use Rattle.model_setup.specs.ResidueSetup.{ResidueSetup}
use Rattle.model_setup.specs.declared.setup.Coupling.{Coupling}
use Rattle.model_setup.specs.SetupPacket.{Submap, Mapping, Mode, SetupFields}

-- ---- codebooks (section 3.2.1)

-- an entry's length, behind a used flag in a sparse book
abbrev pub entry_fields : Bool → Option ℕ → List WrittenField
entry_fields true None = in_bits 1 0
entry_fields true (Some len) = in_bits 1 1 ++ count_in_bits 5 len
entry_fields false None = []
entry_fields false (Some len) = count_in_bits 5 len

abbrev pub is_sparse : List (Option ℕ) → Bool
is_sparse lengths = list_any is_none lengths

abbrev pub length_fields : List (Option ℕ) → List WrittenField
length_fields lengths =
    in_bits 1 0 ++ (flag (is_sparse lengths) ++ flat_map (entry_fields (is_sparse lengths)) lengths)

abbrev pub lookup_type : LookupKind → ℕ
lookup_type Lattice = 1
lookup_type Tessellation = 2

abbrev pub lookup_fields : Option Lookup → List WrittenField
lookup_fields None = in_bits 4 0
lookup_fields (Some lookup) =
    in_bits 4 (lookup_type lookup.kind) ++ (in_bits 32 lookup.minimum ++ (in_bits 32 lookup.delta
    ++ (in_bits 4 15 ++ (flag lookup.sequence ++ flat_map (in_bits 16) lookup.multiplicands))))

abbrev pub book_fields : Codebook → List WrittenField
book_fields book =
    in_bits 24 0x564342 ++ (in_bits 16 book.dimensions ++ (in_bits 24 (length book.lengths)
    ++ (length_fields book.lengths ++ lookup_fields book.lookup)))

-- ---- floors (section 7.2.2)

-- a book that a subclass may have: 0 is none, and else its number and one
abbrev pub subclass_book_fields : Option ℕ → List WrittenField
subclass_book_fields None = in_bits 8 0
subclass_book_fields (Some book) = in_bits 8 (book + 1)

abbrev pub class_fields : FloorClass → List WrittenField
class_fields class =
    count_in_bits 3 class.dimensions ++ (in_bits 2 class.subclass_bits
    ++ (optional_byte class.master ++ flat_map subclass_book_fields class.books))

-- two to how many is the end of the range: how many binary digits the numbers below it have
abbrev pub range_bits : List ℕ → ℕ
range_bits x_values = ilog (slice_index x_values 1 - 1)

abbrev pub floor_fields : FloorSetup → List WrittenField
floor_fields floor =
    in_bits 5 (length floor.partitions) ++ (flat_map (in_bits 4) floor.partitions
    ++ (flat_map class_fields floor.classes ++ (count_in_bits 2 floor.multiplier
    ++ (in_bits 4 (range_bits floor.x_values)
    ++ flat_map (in_bits (range_bits floor.x_values)) (drop 2 floor.x_values)))))

-- ---- residues (section 8.6.1)

abbrev pub residue_type : ResidueKind → ℕ
residue_type Spread = 0
residue_type InRow = 1
residue_type Interleaved = 2

-- which of these passes have a book, the first by the lowest digit
abbrev pub pass_flags : List (Option ℕ) → ℕ
pass_flags [] = 0
pass_flags (book ∷ books) = bit_value (is_some book) + 2 * pass_flags books

abbrev pub cascade_fields : List (Option ℕ) → List WrittenField
cascade_fields books =
    in_bits 3 (pass_flags books % 8) ++ (if pass_flags books / 8 == 0 then in_bits 1 0
    else in_bits 1 1 ++ in_bits 5 (pass_flags books / 8))

abbrev pub residue_fields : ResidueSetup → List WrittenField
residue_fields residue =
    in_bits 24 residue.begin ++ (in_bits 24 residue.end
    ++ (count_in_bits 24 residue.partition_size ++ (count_in_bits 6 (length residue.cascades)
    ++ (in_bits 8 residue.class_book ++ (flat_map cascade_fields residue.cascades
    ++ flat_map (flat_map optional_byte) residue.cascades)))))

-- ---- mappings and modes (section 4.2.4)

abbrev pub coupling_fields : ℕ → Coupling → List WrittenField
coupling_fields channels coupling =
    in_bits (ilog (channels - 1)) coupling.magnitude ++ in_bits (ilog (channels - 1)) coupling.angle

abbrev pub mux_fields : ℕ → List ℕ → List WrittenField
mux_fields submaps mux = if nat_lt 1 submaps then flat_map (in_bits 4) mux else []

abbrev pub submap_fields : Submap → List WrittenField
submap_fields submap = in_bits 8 0 ++ (in_bits 8 submap.floor ++ in_bits 8 submap.residue)

abbrev pub mapping_fields : Mapping → List WrittenField
mapping_fields mapping =
    in_bits 16 0 ++ (flagged_count 4 1 (length mapping.submaps)
    ++ (flagged_count 8 0 (length mapping.couplings)
    ++ (flat_map (coupling_fields (length mapping.mux)) mapping.couplings ++ (in_bits 2 0
    ++ (mux_fields (length mapping.submaps) mapping.mux
    ++ flat_map submap_fields mapping.submaps)))))

abbrev pub mode_fields : Mode → List WrittenField
mode_fields mode = flag mode.long ++ (in_bits 16 0 ++ (in_bits 16 0 ++ in_bits 8 mode.mapping))

-- ---- the packet

-- so many items behind their count
abbrev pub counted_fields : {A : Type 0} → ℕ → (A → List WrittenField) → List A → List WrittenField
counted_fields width fields items = count_in_bits width (length items) ++ flat_map fields items

abbrev pub setup_fields : SetupFields → List WrittenField
setup_fields setup =
    flat_map (in_bits 8) (5 ∷ codes "vorbis") ++ (counted_fields 8 book_fields setup.books
    ++ ((in_bits 6 0 ++ in_bits 16 0)
    ++ (counted_fields 6 (λ floor. in_bits 16 1 ++ floor_fields floor) setup.floors
    ++ (counted_fields 6
    (λ (residue : ResidueSetup). in_bits 16 (residue_type residue.kind) ++ residue_fields residue)
    setup.residues
    ++ (counted_fields 6 mapping_fields setup.mappings
    ++ (counted_fields 6 mode_fields setup.modes ++ in_bits 1 1))))))
