-- The made setups, by computation: what is written is read as the same setup.
use Rattle.std.proofs.Common.{refl}
use lib.Count.{count_leading_zeros}
use Rattle.model_setup.specs.Codewords.{size_of, first_free, words_behind, filled, book_words}
use Rattle.model_setup.specs.Vectors.{root_up_to, root_of}
use Rattle.model_setup.specs.BookReading.{front_at, length_at, entry_length_at, unordered_lengths_at, length_list_at, lengths_at, table_at, lookup_at, book_at}
use Rattle.model_setup.specs.FloorReading.{class_at, master_at, subclass_book_at, x_values_at, partition_classes_at, partitions_at, floor_at}
use Rattle.model_setup.specs.ResidueReading.{serving_book_at, pass_flags_at, pass_book_at, cascade_at, cascades_at, residue_at}
use Rattle.model_setup.specs.HeaderPackets.{bytes_at}
use Rattle.model_setup.specs.SetupPacket.{count_at, count_if_flagged_at, number_below_at, zero_at, next_book_at, books_at, times_at, numbered_floor_at, floors_at, numbered_residue_at, residues_at, coupling_at, couplings_at, mux_at, submap_at, mapping_at, mappings_at, mode_at, modes_at, framing_at, setup_at}
use Rattle.model_trial.specs.Laws.{MadeSetupIsRead}

pub one_channel : MadeSetupIsRead 1
unfolding count_leading_zeros size_of first_free words_behind filled book_words root_up_to root_of front_at length_at entry_length_at unordered_lengths_at length_list_at lengths_at table_at lookup_at book_at x_values_at partition_classes_at partitions_at floor_at serving_book_at pass_flags_at pass_book_at cascade_at cascades_at residue_at bytes_at count_at count_if_flagged_at number_below_at zero_at next_book_at books_at times_at numbered_floor_at floors_at numbered_residue_at residues_at coupling_at couplings_at mux_at submap_at mapping_at mappings_at mode_at modes_at framing_at setup_at class_at master_at subclass_book_at
one_channel = refl

pub two_channels : MadeSetupIsRead 2
unfolding count_leading_zeros size_of first_free words_behind filled book_words root_up_to root_of front_at length_at entry_length_at unordered_lengths_at length_list_at lengths_at table_at lookup_at book_at x_values_at partition_classes_at partitions_at floor_at serving_book_at pass_flags_at pass_book_at cascade_at cascades_at residue_at bytes_at count_at count_if_flagged_at number_below_at zero_at next_book_at books_at times_at numbered_floor_at floors_at numbered_residue_at residues_at coupling_at couplings_at mux_at submap_at mapping_at mappings_at mode_at modes_at framing_at setup_at class_at master_at subclass_book_at
two_channels = refl
