-- A setup packet and heads of audio packets, by computation.
use Rattle.std.proofs.Common.{◌≡◌, refl, ℕ, List, [], ◌∷◌, ◌++◌, Some, None, Ok, Err, true, false}
use Rattle.std.specs.Prelude.{replicate}
use lib.Count.{count_leading_zeros}
use Rattle.model_setup.specs.declared.book.LookupKind.TheVariants.{Lattice}
use Rattle.model_setup.specs.declared.residue.ResidueKind.TheVariants.{InRow}
use Rattle.model_setup.specs.declared.setup.SetupCause.TheVariants as causes
use Rattle.model_setup.specs.declared.setup.SetupFault.TheVariants.{Bad}
use Rattle.model_setup.specs.declared.setup.PacketHead.TheVariants as heads
use Rattle.model_setup.specs.Codewords.{size_of, first_free, words_behind, filled, book_words}
use Rattle.model_setup.specs.Vectors.{root_up_to, root_of}
use Rattle.model_setup.specs.BookReading.{front_at, length_at, entry_length_at, unordered_lengths_at, length_list_at, lengths_at, table_at, lookup_at, book_at}
use Rattle.model_setup.specs.FloorReading.{x_values_at, partition_classes_at, partitions_at, floor_at}
use Rattle.model_setup.specs.ResidueReading.{serving_book_at, pass_flags_at, pass_book_at, cascade_at, cascades_at, residue_at}
use Rattle.model_setup.specs.HeaderPackets.{bytes_at}
use Rattle.model_setup.specs.SetupPacket.{SetupFields, setup_of, count_at, count_if_flagged_at, number_below_at, zero_at, next_book_at, books_at, times_at, numbered_floor_at, floors_at, numbered_residue_at, residues_at, coupling_at, couplings_at, mux_at, submap_at, mapping_at, mappings_at, mode_at, modes_at, framing_at, setup_at}
use Rattle.model_setup.specs.AudioHead.{head_of, block_head_at, window_flags_at}

-- one mode, which is short: no bit names it
short_head : head_of (false ∷ []) (2 ∷ 0 ∷ 0 ∷ []) ≡ heads.Block 0 false false
unfolding count_leading_zeros head_of block_head_at window_flags_at
short_head = refl

-- the third of three modes, and a fourth that isn't there
third_mode : head_of (false ∷ false ∷ false ∷ []) (4 ∷ []) ≡ heads.Block 2 false false
unfolding count_leading_zeros head_of block_head_at window_flags_at
third_mode = refl

no_such_mode : head_of (false ∷ false ∷ false ∷ []) (6 ∷ []) ≡ heads.Bad
unfolding count_leading_zeros head_of block_head_at window_flags_at
no_such_mode = refl

-- a long block with a long one before it
long_head : head_of (true ∷ []) (2 ∷ []) ≡ heads.Block 0 true false
unfolding count_leading_zeros head_of block_head_at window_flags_at
long_head = refl

empty_packet : head_of (true ∷ []) [] ≡ heads.Skip
unfolding head_of
empty_packet = refl

no_audio : head_of (true ∷ []) (1 ∷ []) ≡ heads.Skip
unfolding head_of
no_audio = refl

-- the window flags are cut: 6 bits for one of 64 modes, and one more
cut_head : head_of (replicate 64 true) (0 ∷ []) ≡ heads.Bad
unfolding count_leading_zeros head_of block_head_at window_flags_at
cut_head = refl

-- the smallest setup: a book of one entry, a floor of two points, a residue of one class, a mapping
-- and a mode
smallest : List ℕ
smallest =
    0x05 ∷ 0x76 ∷ 0x6f ∷ 0x72 ∷ 0x62 ∷ 0x69 ∷ 0x73 ∷ 0x00 ∷ 0x42 ∷ 0x43 ∷ 0x56 ∷ 0x01 ∷ 0x00 ∷ 0x01
    ∷ 0x00 ∷ 0x00 ∷ 0x80 ∷ 0x08 ∷ 0x00 ∷ 0x00 ∷ 0x12 ∷ 0x03 ∷ 0x00 ∷ 0x00 ∷ 0x00 ∷ 0x00 ∷ 0x00 ∷ 0x00
    ∷ 0x00 ∷ 0x20 ∷ 0x00 ∷ 0x00 ∷ 0x50 ∷ 0x40 ∷ 0x00 ∷ 0x00 ∷ 0x00 ∷ 0x00 ∷ 0x40 ∷ 0x00 ∷ 0x00 ∷ 0x00
    ∷ 0x00 ∷ 0x00 ∷ 0x00 ∷ 0x00 ∷ 0x10 ∷ replicate 13 0x00 ++ 0x02 ∷ []

smallest_fields : SetupFields
smallest_fields = record {
  books = record {
    dimensions = 1;
    lengths = Some 1 ∷ [];
    lookup = Some (record {
      kind = Lattice;
      minimum = 0x62400001;
      delta = 0;
      sequence = false;
      multiplicands = 0 ∷ [];
    });
  } ∷ [];
  floors = record { partitions = []; classes = []; multiplier = 1; x_values = 0 ∷ 32 ∷ [] } ∷ [];
  residues = record {
    kind = InRow;
    begin = 0;
    end = 1;
    partition_size = 1;
    class_book = 0;
    cascades = (Some 0 ∷ replicate 7 None) ∷ [];
  } ∷ [];
  mappings = record {
    couplings = [];
    mux = 0 ∷ [];
    submaps = record { floor = 0; residue = 0 } ∷ [];
  } ∷ [];
  modes = record { long = false; mapping = 0 } ∷ [];
}

reads_smallest : setup_of 1 smallest ≡ Ok smallest_fields
unfolding smallest smallest_fields count_leading_zeros size_of first_free words_behind filled book_words root_up_to root_of front_at length_at entry_length_at unordered_lengths_at length_list_at lengths_at table_at lookup_at book_at x_values_at partition_classes_at partitions_at floor_at serving_book_at pass_flags_at pass_book_at cascade_at cascades_at residue_at bytes_at count_at count_if_flagged_at number_below_at zero_at next_book_at books_at times_at numbered_floor_at floors_at numbered_residue_at residues_at coupling_at couplings_at mux_at submap_at mapping_at mappings_at mode_at modes_at framing_at setup_at
reads_smallest = refl

-- a book of 2 ^ 24 - 1 entries is refused by the limit, before its lengths
too_large : List ℕ
too_large =
    0x05 ∷ 0x76 ∷ 0x6f ∷ 0x72 ∷ 0x62 ∷ 0x69 ∷ 0x73 ∷ 0x00 ∷ 0x42 ∷ 0x43 ∷ 0x56 ∷ 0x01 ∷ 0x00 ∷ 0xff
    ∷ 0xff ∷ 0xff ∷ []

refuses_too_large : setup_of 1 too_large ≡ Err (Bad causes.BookLimit 0)
unfolding too_large front_at book_at bytes_at count_at next_book_at books_at setup_at
refuses_too_large = refl
