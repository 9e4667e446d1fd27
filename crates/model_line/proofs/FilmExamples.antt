-- Examples by computation: films and links that are accepted, and the first faults of others, in the
-- order of the tests.
use Rattle.std.proofs.Common.{◌≡◌, ℕ, List, [], ◌∷◌, ◌++◌, map, None, Result, Ok, Err, refl}
use Rattle.std.specs.Prelude.{codes, replicate}
use lib.Count.{count_leading_zeros}
use Rattle.model_ogg.specs.Checksum.{shifted, shifted_times, with_byte, read_as, counted, checksum_of}
use Rattle.model_ogg.specs.Pages.{page_len, granule_of, page_ref, is_right_page, begins_page, pages_behind}
use Rattle.model_ogg.specs.Streams.{first_part_len, through_last}
use Rattle.model_ogg.specs.Links.{up_to_link, links_after, played, all_numbered, film_links}
use Rattle.model_ogg.specs.Entries.{StreamItem, packet, lost, segments, after_end, packets_ended, left_pending, page_items, page_pending, items_after}
use Rattle.model_setup.specs.declared.head.IdentCause.TheVariants as idents
use Rattle.model_setup.specs.declared.head.CommentCause.TheVariants as comments
use Rattle.model_setup.specs.declared.setup.SetupCause.TheVariants as setups
use Rattle.model_setup.specs.HeaderPackets.{ident_at, bytes_at, format_at, bitrates_at, blocks_at, ident_framing_at, comment_at, text_at, comment_framing_at}
use Rattle.model_setup.specs.Codewords.{size_of, first_free, words_behind, filled, book_words}
use Rattle.model_setup.specs.Vectors.{root_up_to, root_of}
use Rattle.model_setup.specs.BookReading.{front_at, length_at, entry_length_at, unordered_lengths_at, length_list_at, lengths_at, table_at, lookup_at, book_at}
use Rattle.model_setup.specs.FloorReading.{x_values_at, partition_classes_at, partitions_at, floor_at}
use Rattle.model_setup.specs.ResidueReading.{serving_book_at, pass_flags_at, pass_book_at, cascade_at, cascades_at, residue_at}
use Rattle.model_setup.specs.SetupPacket.{count_at, count_if_flagged_at, number_below_at, zero_at, next_book_at, books_at, times_at, numbered_floor_at, floors_at, numbered_residue_at, residues_at, coupling_at, couplings_at, mux_at, submap_at, mapping_at, mappings_at, mode_at, modes_at, framing_at, setup_at}
use Rattle.model_line.specs.declared.film.LinkCounts.{LinkCounts}
use Rattle.model_line.specs.declared.film.FilmFault.{FilmFault}
use Rattle.model_line.specs.declared.film.FilmFault.TheVariants as faults
use Rattle.model_line.specs.LinkTests.{headers_of}
use Rattle.model_line.specs.Acceptance.{FilmLink, link_with, link_of, links_of, film_of}

-- ---- films

-- the pages of the smallest film: its identification, its comment and setup, and two audio packets
ident_page : List ℕ
ident_page =
    79 ∷ 103 ∷ 103 ∷ 83 ∷ 0 ∷ 2 ∷ 0 ∷ 0 ∷ 0 ∷ 0 ∷ 0 ∷ 0 ∷ 0 ∷ 0 ∷ 1 ∷ 0 ∷ 0 ∷ 0 ∷ 0 ∷ 0 ∷ 0 ∷ 0 ∷
    89 ∷ 231 ∷ 255 ∷ 144 ∷ 1 ∷ 30 ∷ 1 ∷ 118 ∷ 111 ∷ 114 ∷ 98 ∷ 105 ∷ 115 ∷ 0 ∷ 0 ∷ 0 ∷ 0 ∷ 1 ∷
    64 ∷ 31 ∷ 0 ∷ 0 ∷ 0 ∷ 0 ∷ 0 ∷ 0 ∷ 0 ∷ 0 ∷ 0 ∷ 0 ∷ 0 ∷ 0 ∷ 0 ∷ 0 ∷ 102 ∷ 1 ∷ []

setup_page : List ℕ
setup_page =
    79 ∷ 103 ∷ 103 ∷ 83 ∷ 0 ∷ 0 ∷ 0 ∷ 0 ∷ 0 ∷ 0 ∷ 0 ∷ 0 ∷ 0 ∷ 0 ∷ 1 ∷ 0 ∷ 0 ∷ 0 ∷ 1 ∷ 0 ∷ 0 ∷ 0 ∷
    140 ∷ 128 ∷ 178 ∷ 13 ∷ 2 ∷ 16 ∷ 61 ∷ 3 ∷ 118 ∷ 111 ∷ 114 ∷ 98 ∷ 105 ∷ 115 ∷ 0 ∷ 0 ∷ 0 ∷ 0 ∷
    0 ∷ 0 ∷ 0 ∷ 0 ∷ 1 ∷ 5 ∷ 118 ∷ 111 ∷ 114 ∷ 98 ∷ 105 ∷ 115 ∷ 0 ∷ 66 ∷ 67 ∷ 86 ∷ 1 ∷ 0 ∷ 1 ∷ 0 ∷
    0 ∷ 128 ∷ 8 ∷ 0 ∷ 0 ∷ 18 ∷ 3 ∷ 0 ∷ 0 ∷ 0 ∷ 0 ∷ 0 ∷ 0 ∷ 0 ∷ 32 ∷ 0 ∷ 0 ∷ 80 ∷ 64 ∷ 0 ∷ 0 ∷ 0 ∷
    0 ∷ 64 ∷ 0 ∷ 0 ∷ 0 ∷ 0 ∷ 0 ∷ 0 ∷ 0 ∷ 16 ∷ 0 ∷ 0 ∷ 0 ∷ 0 ∷ 0 ∷ 0 ∷ 0 ∷ 0 ∷ 0 ∷ 0 ∷ 0 ∷ 0 ∷ 0 ∷
    2 ∷ []

last_page : List ℕ
last_page =
    79 ∷ 103 ∷ 103 ∷ 83 ∷ 0 ∷ 4 ∷ 32 ∷ 0 ∷ 0 ∷ 0 ∷ 0 ∷ 0 ∷ 0 ∷ 0 ∷ 1 ∷ 0 ∷ 0 ∷ 0 ∷ 2 ∷ 0 ∷ 0 ∷
    0 ∷ 246 ∷ 123 ∷ 81 ∷ 174 ∷ 2 ∷ 3 ∷ 3 ∷ 2 ∷ 0 ∷ 0 ∷ 2 ∷ 0 ∷ 0 ∷ []

-- the first page of a stream that is not Vorbis
other_page : List ℕ
other_page =
    79 ∷ 103 ∷ 103 ∷ 83 ∷ 0 ∷ 2 ∷ 0 ∷ 0 ∷ 0 ∷ 0 ∷ 0 ∷ 0 ∷ 0 ∷ 0 ∷ 1 ∷ 0 ∷ 0 ∷ 0 ∷ 7 ∷ 0 ∷ 0 ∷ 0 ∷
    79 ∷ 52 ∷ 140 ∷ 67 ∷ 1 ∷ 1 ∷ 97 ∷ []

-- the numbers of the links of a film that is accepted
abbrev counts_in : Result (List FilmLink) FilmFault → List LinkCounts
counts_in (Ok links) = map (λ (link : FilmLink). link.counts) links
counts_in (Err fault) = []

-- no page, no link
no_page : film_of [] ≡ Err faults.NoLink
unfolding pages_behind film_links film_of
no_page = refl

-- the smallest film is accepted
smallest : counts_in (film_of (ident_page ++ setup_page ++ last_page)) ≡ record { serial = 1; pages = 3; packets = 5; lost = 0 } ∷ []
unfolding ident_page setup_page last_page shifted shifted_times with_byte read_as counted checksum_of page_len granule_of page_ref is_right_page begins_page pages_behind first_part_len through_last up_to_link links_after played all_numbered film_links segments after_end packets_ended left_pending page_items page_pending items_after bytes_at ident_at format_at bitrates_at blocks_at ident_framing_at comment_at text_at comment_framing_at count_leading_zeros size_of first_free words_behind filled book_words root_up_to root_of front_at length_at entry_length_at unordered_lengths_at length_list_at lengths_at table_at lookup_at book_at x_values_at partition_classes_at partitions_at floor_at serving_book_at pass_flags_at pass_book_at cascade_at cascades_at residue_at count_at count_if_flagged_at number_below_at zero_at next_book_at books_at times_at numbered_floor_at floors_at numbered_residue_at residues_at coupling_at couplings_at mux_at submap_at mapping_at mappings_at mode_at modes_at framing_at setup_at headers_of link_with link_of links_of film_of
smallest = refl

-- one whose setup page is missing has a loss after its first packet
without_setup : film_of (ident_page ++ last_page) ≡ Err (faults.HeadMissing 0)
unfolding ident_page last_page shifted shifted_times with_byte read_as counted checksum_of page_len granule_of page_ref is_right_page begins_page pages_behind first_part_len through_last up_to_link links_after played all_numbered film_links segments after_end packets_ended left_pending page_items page_pending items_after headers_of link_with link_of links_of film_of
without_setup = refl

-- a link without a Vorbis stream is found before the headers of the links are looked at
without_vorbis : film_of (ident_page ++ last_page ++ other_page) ≡ Err (faults.NoVorbis 1)
unfolding ident_page last_page other_page shifted shifted_times with_byte read_as counted checksum_of page_len granule_of page_ref is_right_page begins_page pages_behind first_part_len through_last up_to_link links_after played all_numbered film_links links_of film_of
without_vorbis = refl

-- ---- the tests of a link, in order

-- an identification of so many channels with this last byte, which is 1 where it is right
abbrev ident_packet : ℕ → ℕ → StreamItem
ident_packet channels framing = packet (1 ∷ codes "vorbis" ++ 0 ∷ 0 ∷ 0 ∷ 0 ∷ channels ∷ 68 ∷ 172 ∷ 0 ∷ 0 ∷ replicate 12 0 ++ 184 ∷ framing ∷ []) None

-- a comment of a vendor's text of two bytes, whole and cut
abbrev comment_packet : StreamItem
comment_packet = packet (3 ∷ codes "vorbis" ++ 2 ∷ 0 ∷ 0 ∷ 0 ∷ 109 ∷ 101 ∷ 0 ∷ 0 ∷ 0 ∷ 0 ∷ 1 ∷ []) None

abbrev cut_comment : StreamItem
cut_comment = packet (3 ∷ codes "vorbis" ++ 2 ∷ 0 ∷ 0 ∷ 0 ∷ 109 ∷ []) None

-- a setup that begins with a book of too many entries
abbrev large_setup : StreamItem
large_setup = packet (5 ∷ codes "vorbis" ++ 0 ∷ 66 ∷ 67 ∷ 86 ∷ 1 ∷ 0 ∷ 255 ∷ 255 ∷ 255 ∷ []) None

-- the link of number 2 whose stream has these entries, where so many may still come
abbrev judged : ℕ → List StreamItem → Result FilmLink FilmFault
judged left items = link_of 2 left 7 [] items

-- too many packets, before a header that is missing
too_many : judged 1 (lost ∷ lost ∷ []) ≡ Err faults.TooManyPackets
unfolding headers_of link_with link_of
too_many = refl

-- a header that is missing, before one that is wrong
missing : judged 9 (packet [] None ∷ packet [] None ∷ lost ∷ []) ≡ Err (faults.HeadMissing 2)
unfolding headers_of link_with link_of
missing = refl

-- an identification, before the channels that it says
wrong_identification : judged 9 (ident_packet 9 254 ∷ cut_comment ∷ large_setup ∷ []) ≡ Err (faults.Ident 2 idents.Framing)
unfolding bytes_at ident_at format_at bitrates_at blocks_at ident_framing_at headers_of link_with link_of
wrong_identification = refl

-- the channels, before the comment
channels : judged 9 (ident_packet 9 1 ∷ cut_comment ∷ large_setup ∷ []) ≡ Err (faults.Channels 2 9)
unfolding bytes_at ident_at format_at bitrates_at blocks_at ident_framing_at headers_of link_with link_of
channels = refl

-- the comment, before the setup
wrong_comment : judged 9 (ident_packet 8 1 ∷ cut_comment ∷ large_setup ∷ []) ≡ Err (faults.Comment 2 comments.End)
unfolding bytes_at ident_at format_at bitrates_at blocks_at ident_framing_at comment_at text_at comment_framing_at headers_of link_with link_of
wrong_comment = refl

-- the setup, last
wrong_setup : judged 9 (ident_packet 8 1 ∷ comment_packet ∷ large_setup ∷ []) ≡ Err (faults.Setup 2 setups.BookLimit 0)
unfolding bytes_at ident_at format_at bitrates_at blocks_at ident_framing_at comment_at text_at comment_framing_at front_at book_at count_at next_book_at books_at setup_at headers_of link_with link_of
wrong_setup = refl
