-- The parts of what is written of a mapping and of a setup: each has its places, and all of them together are the whole.
use Rattle.std.proofs.Common.{◌≡◌, ℕ, ◌+◌, ◌-◌, ◌^◌, ◌<◌, ◌≤◌, List, ◌∷◌, ◌++◌, length, flat_map, codes, Bool, false, ◌==◌, if◌then◌else◌, subst, inl, inr, arith}
use Rattle.std.proofs.lemmas.Bool.{cases_eq, ne_eqb}
use Rattle.model_bits.specs.Writing.{WrittenField, in_bits, count_in_bits, flagged_count}
use Rattle.model_setup.specs.SetupPacket.{Mapping, SetupFields}
use Rattle.model_writing.specs.SetupWriting.{counted_fields, book_fields, coupling_fields, mux_fields, submap_fields, mapping_fields, mode_fields, setup_fields}
use Rattle.setup_fields.specs.Puts.{HavePlaces, ArePut}
use Rattle.setup_fields.proofs.Puts.{field_then, then_put, first_place, next_places, places_before, places_behind}
use Rattle.setup_header.specs.Parts.{numbered_floor_fields, numbered_residue_fields}

-- a count behind a flag that has a place is small
pub flagged_small : (width other count : ℕ) → HavePlaces (flagged_count width other count) → count ≤ other + 2 ^ width
flagged_small width other count have = elim (cases_eq count other) [
  | inl same ↦ omega arith
  | inr apart ↦
      let is : (count == other) ≡ false = ne_eqb count other apart in
      let there = subst (λ (b : Bool). HavePlaces (if b then in_bits 1 0 else in_bits 1 1 ++ count_in_bits width count)) is have in
      let small : count - 1 < 2 ^ width = first_place (next_places there) in
      omega arith
]

pub record MappingPlaces (mapping : Mapping) : Type 0 where
  pub submap_count : HavePlaces (flagged_count 4 1 (length mapping.submaps))
  pub coupling_count : HavePlaces (flagged_count 8 0 (length mapping.couplings))
  pub couplings : HavePlaces (flat_map (coupling_fields (length mapping.mux)) mapping.couplings)
  pub mux : HavePlaces (mux_fields (length mapping.submaps) mapping.mux)
  pub submaps : HavePlaces (flat_map submap_fields mapping.submaps)

module _ (mapping : Mapping) where
  abbrev submap_counts : List WrittenField
  submap_counts = flagged_count 4 1 (length mapping.submaps)

  abbrev coupling_counts : List WrittenField
  coupling_counts = flagged_count 8 0 (length mapping.couplings)

  abbrev steps : List WrittenField
  steps = flat_map (coupling_fields (length mapping.mux)) mapping.couplings

  abbrev muxes : List WrittenField
  muxes = mux_fields (length mapping.submaps) mapping.mux

  abbrev each_submap : List WrittenField
  each_submap = flat_map submap_fields mapping.submaps

  pub mapping_places : HavePlaces (mapping_fields mapping) → MappingPlaces mapping
  mapping_places have =
      let counts = next_places have in
      let from_count = places_behind submap_counts (coupling_counts ++ (steps ++ (in_bits 2 0 ++ (muxes ++ each_submap)))) counts in
      let from_steps = places_behind coupling_counts (steps ++ (in_bits 2 0 ++ (muxes ++ each_submap))) from_count in
      let from_mux = next_places (places_behind steps (in_bits 2 0 ++ (muxes ++ each_submap)) from_steps) in
      record {
        submap_count = places_before submap_counts (coupling_counts ++ (steps ++ (in_bits 2 0 ++ (muxes ++ each_submap)))) counts;
        coupling_count = places_before coupling_counts (steps ++ (in_bits 2 0 ++ (muxes ++ each_submap))) from_count;
        couplings = places_before steps (in_bits 2 0 ++ (muxes ++ each_submap)) from_steps;
        mux = places_before muxes each_submap from_mux;
        submaps = places_behind muxes each_submap from_mux;
      }

  pub mapping_put : {a b c d e f g h : List Bool} → ArePut a b (in_bits 16 0) → ArePut b c (flagged_count 4 1 (length mapping.submaps)) → ArePut c d (flagged_count 8 0 (length mapping.couplings))
      → ArePut d e (flat_map (coupling_fields (length mapping.mux)) mapping.couplings) → ArePut e f (in_bits 2 0) → ArePut f g (mux_fields (length mapping.submaps) mapping.mux)
      → ArePut g h (flat_map submap_fields mapping.submaps) → ArePut a h (mapping_fields mapping)
  mapping_put kind submap_count coupling_count couplings reserved mux submaps =
      field_then kind (then_put submap_counts (coupling_counts ++ (steps ++ (in_bits 2 0 ++ (muxes ++ each_submap)))) submap_count
      (then_put coupling_counts (steps ++ (in_bits 2 0 ++ (muxes ++ each_submap))) coupling_count
      (then_put steps (in_bits 2 0 ++ (muxes ++ each_submap)) couplings
      (field_then reserved (then_put muxes each_submap mux submaps)))))

pub record SetupPlaces (setup : SetupFields) : Type 0 where
  pub books : HavePlaces (counted_fields 8 book_fields setup.books)
  pub floors : HavePlaces (counted_fields 6 numbered_floor_fields setup.floors)
  pub residues : HavePlaces (counted_fields 6 numbered_residue_fields setup.residues)
  pub mappings : HavePlaces (counted_fields 6 mapping_fields setup.mappings)
  pub modes : HavePlaces (counted_fields 6 mode_fields setup.modes)

module _ (setup : SetupFields) where
  abbrev start : List WrittenField
  start = flat_map (in_bits 8) (5 ∷ codes "vorbis")

  abbrev times : List WrittenField
  times = in_bits 6 0 ++ in_bits 16 0

  abbrev books : List WrittenField
  books = counted_fields 8 book_fields setup.books

  abbrev floors : List WrittenField
  floors = counted_fields 6 numbered_floor_fields setup.floors

  abbrev residues : List WrittenField
  residues = counted_fields 6 numbered_residue_fields setup.residues

  abbrev mappings : List WrittenField
  mappings = counted_fields 6 mapping_fields setup.mappings

  abbrev modes : List WrittenField
  modes = counted_fields 6 mode_fields setup.modes

  pub setup_places : HavePlaces (setup_fields setup) → SetupPlaces setup
  setup_places have =
      let from_modes = modes ++ in_bits 1 1 in
      let from_mappings = mappings ++ from_modes in
      let from_residues = residues ++ from_mappings in
      let from_floors = floors ++ from_residues in
      let from_times = times ++ from_floors in
      let a = places_behind start (books ++ from_times) have in
      let b = places_behind times from_floors (places_behind books from_times a) in
      let c = places_behind floors from_residues b in
      let d = places_behind residues from_mappings c in
      let e = places_behind mappings from_modes d in
      record {
        books = places_before books from_times a;
        floors = places_before floors from_residues b;
        residues = places_before residues from_mappings c;
        mappings = places_before mappings from_modes d;
        modes = places_before modes (in_bits 1 1) e;
      }

  pub setup_put : {a b c d e f g h i : List Bool} → ArePut a b (flat_map (in_bits 8) (5 ∷ codes "vorbis")) → ArePut b c (counted_fields 8 book_fields setup.books) → ArePut c d (in_bits 6 0 ++ in_bits 16 0)
      → ArePut d e (counted_fields 6 numbered_floor_fields setup.floors) → ArePut e f (counted_fields 6 numbered_residue_fields setup.residues)
      → ArePut f g (counted_fields 6 mapping_fields setup.mappings) → ArePut g h (counted_fields 6 mode_fields setup.modes) → ArePut h i (in_bits 1 1) → ArePut a i (setup_fields setup)
  setup_put is_start is_books is_times is_floors is_residues is_mappings is_modes framing =
      let from_modes = modes ++ in_bits 1 1 in
      let from_mappings = mappings ++ from_modes in
      let from_residues = residues ++ from_mappings in
      let from_floors = floors ++ from_residues in
      let from_times = times ++ from_floors in
      then_put start (books ++ from_times) is_start (then_put books from_times is_books (then_put times from_floors is_times (then_put floors from_residues is_floors
      (then_put residues from_mappings is_residues (then_put mappings from_modes is_mappings (then_put modes (in_bits 1 1) is_modes framing))))))
