-- The parts of a made film, by computation.
use Rattle.std.proofs.Common.{◌≡◌, refl, [], ◌∷◌, None}
use lib.Count.{count_leading_zeros}
use Rattle.model_setup.specs.Codewords.{size_of, first_free, words_behind, filled, book_words}
use Rattle.model_setup.specs.Vectors.{root_up_to, root_of}
use Rattle.model_setup.specs.BookReading.{front_at, length_at, entry_length_at, unordered_lengths_at, length_list_at, lengths_at, table_at, lookup_at, book_at}
use Rattle.model_setup.specs.FloorReading.{class_at, master_at, subclass_book_at, x_values_at, partition_classes_at, partitions_at, floor_at}
use Rattle.model_setup.specs.ResidueReading.{serving_book_at, pass_flags_at, pass_book_at, cascade_at, cascades_at, residue_at}
use Rattle.model_setup.specs.HeaderPackets.{bytes_at}
use Rattle.model_setup.specs.SetupPacket.{count_at, count_if_flagged_at, number_below_at, zero_at, next_book_at, books_at, times_at, numbered_floor_at, floors_at, numbered_residue_at, residues_at, coupling_at, couplings_at, mux_at, submap_at, mapping_at, mappings_at, mode_at, modes_at, framing_at, setup_at}
use Rattle.std.specs.List.{AllByRecursion}
use Rattle.std.proofs.lemmas.List.Elements.{All-from_recursion}
use Rattle.model_setup.specs.HeaderPackets.{format_at, bitrates_at, blocks_at, ident_framing_at, ident_at, text_at, comment_framing_at, comment_at}
use Rattle.model_trial.specs.MadeFilm.{made_links, ident_packet, comment_packet, setup_packet, headed, packets_behind, frames_between}
use Rattle.model_trial.specs.Laws.{HeadersAreAccepted, MadeHeadersAreAccepted}

-- a long block between a short one and a long one; the four lowest bits are overwritten
head_of_long : headed 0 1 1 0xff ≡ 0xfa
unfolding headed
head_of_long = refl

head_of_short : headed 1 0 1 0xff ≡ 0xfc
unfolding headed
head_of_short = refl

-- the first and the last packet have long neighbours beyond the link
two_packets : packets_behind 1 (1 ∷ 1 ∷ []) ((0 ∷ 7 ∷ []) ∷ (0 ∷ []) ∷ []) ≡ (14 ∷ 7 ∷ []) ∷ (14 ∷ []) ∷ []
unfolding packets_behind headed
two_packets = refl

frames_of_three : frames_between (0 ∷ 1 ∷ 1 ∷ []) ≡ 208
unfolding frames_between
frames_of_three = refl

first_header : ident_packet (record { channels = 2; rate = 44100; serial = 100; lost_before = None; cut = 0 }) ≡ 1 ∷ 118 ∷ 111 ∷ 114 ∷ 98 ∷ 105 ∷ 115 ∷ 0 ∷ 0 ∷ 0 ∷ 0 ∷ 2 ∷ 68 ∷ 172 ∷ 0 ∷ 0 ∷ 0 ∷ 0 ∷ 0 ∷ 0 ∷ 0 ∷ 0 ∷ 0 ∷ 0 ∷ 0 ∷ 0 ∷ 0 ∷ 0 ∷ 134 ∷ 1 ∷ []
unfolding ident_packet
first_header = refl

each_link : AllByRecursion HeadersAreAccepted made_links
unfolding count_leading_zeros size_of first_free words_behind filled book_words root_up_to root_of front_at length_at entry_length_at unordered_lengths_at length_list_at lengths_at table_at lookup_at book_at x_values_at partition_classes_at partitions_at floor_at serving_book_at pass_flags_at pass_book_at cascade_at cascades_at residue_at bytes_at count_at count_if_flagged_at number_below_at zero_at next_book_at books_at times_at numbered_floor_at floors_at numbered_residue_at residues_at coupling_at couplings_at mux_at submap_at mapping_at mappings_at mode_at modes_at framing_at setup_at class_at master_at subclass_book_at format_at bitrates_at blocks_at ident_framing_at ident_at text_at comment_framing_at comment_at ident_packet comment_packet setup_packet
each_link = (record { ident = refl; comment = refl; setup = refl }, (record { ident = refl; comment = refl; setup = refl }, (record { ident = refl; comment = refl; setup = refl }, tt)))

pub made_headers_are_accepted : MadeHeadersAreAccepted
made_headers_are_accepted = All-from_recursion HeadersAreAccepted made_links each_link
