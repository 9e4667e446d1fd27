-- Lines and what is written of them, by computation. The blocks of the example are shorter than any
-- stream may have, so that it stays small.
use Rattle.std.proofs.Common.{◌≡◌, refl, ◌^◌, ◌*◌, ℕ, List, [], ◌∷◌, ◌++◌, Some, None, true, false, pos, map, replicate}
use Rattle.std.specs.Prelude.{neg_ℤ}
use Rattle.std.specs.List.{flat_map}
use lib.Count.{count_leading_zeros}
use Rattle.model_ogg.specs.Entries.{StreamItem, packet, lost}
use Rattle.model_fixed.specs.Fixed.{fix}
use Rattle.model_setup.specs.declared.residue.ResidueKind.TheVariants.{InRow}
use Rattle.model_setup.specs.SetupPacket.{SetupFields}
use Rattle.model_setup.specs.AudioHead.{head_of, block_head_at, window_flags_at}
use Rattle.model_setup.specs.FloorPacket.{entry_or_0_at, partition_values_at, y_values_at, nonzero_values_at, floor_values}
use Rattle.model_setup.specs.declared.book.LookupKind.TheVariants.{Lattice}
use Rattle.model_setup.specs.FloorCurve.{nearest_below, nearest_above, low_neighbour, high_neighbour, render_point, predicted, final_value, values_up_to, is_flagged, finals_up_to, finals_of, floor_finals, curve_at}
use Rattle.model_setup.specs.Codewords.{size_of, first_free, words_behind, filled, book_words, digits_of, begins_with, begins, entry_begun, entry_by, entry_at, look_high}
use Rattle.model_setup.specs.Vectors.{root_up_to, root_of, value_at, vector_of, vector_at}
use Rattle.model_synthesis.specs.Spectrum.{shaped}
use Rattle.model_setup.specs.ResidueDecoding.{group_steps, pass_steps, steps, reading_places, after_reading, after_step, decoded_from, residue_vectors}
use Rattle.model_synthesis.specs.Tables.{ConstantTables, wave}
use Rattle.model_synthesis.specs.Coupling.{without_steps}
use Rattle.model_synthesis.specs.Transform.{sum_at, transformed}
use Rattle.model_synthesis.specs.Windows.{windowed}
use Rattle.model_line.specs.declared.row.GapKind.TheVariants as kinds
use Rattle.model_line.specs.Acceptance.{FilmLink}
use Rattle.model_line.specs.Decode.{frame, gap, linear_decode}
use Rattle.model_line.specs.Trim.{marks, front_cut, end_cut, trimmed}
use Rattle.model_line.specs.Lines.{link_cuts, link_line, line}
use Rattle.model_line.specs.Blocks.{frames_between}
use Rattle.model_block.specs.PacketParts.{read_curve, read_curves, wanted_channels, replaced, with_submap, channel_residues}
use Rattle.model_block.specs.PacketBlocks.{all_values, packet_parts, block_by_mode, packet_block}
use Rattle.model_film.specs.FilmLines.{decoded_entries, film_line}
use Rattle.model_line.specs.FrameBytes.{frame_bytes}
use Rattle.model_film.specs.Dumps.{line_bytes, dump_of}

-- ---- what is written

-- two frames of two channels and a gap: silence, half of the lowest value, a value past the highest
-- sample, and one that is rounded up
writes_frames : line_bytes (frame 0 (pos 0 ∷ neg_ℤ (pos (2 ^ 19)) ∷ []) ∷ gap 0 kinds.Lost ∷ frame 1 (pos (2 ^ 20) ∷ pos 48 ∷ []) ∷ [])
    ≡ 0x00 ∷ 0x00 ∷ 0x00 ∷ 0xc0 ∷ 0xff ∷ 0x7f ∷ 0x02 ∷ 0x00 ∷ []
unfolding line_bytes frame_bytes
writes_frames = refl

-- ---- lines

-- no constants: all slopes and cosines are 0
abbrev no_tables : ConstantTables
no_tables = record { scale = 23; decibels = []; slopes = []; cosines = [] }

-- one short mode, one channel
abbrev setup : SetupFields
setup = record {
  books = [];
  floors = record { partitions = []; classes = []; multiplier = 1; x_values = 0 ∷ 4 ∷ [] } ∷ [];
  residues = record { kind = InRow; begin = 0; end = 0; partition_size = 1; class_book = 0; cascades = [] } ∷ [];
  mappings = record { couplings = []; mux = 0 ∷ []; submaps = record { floor = 0; residue = 0 } ∷ [] } ∷ [];
  modes = record { long = false; mapping = 0 } ∷ record { long = false; mapping = 0 } ∷ record { long = false; mapping = 0 } ∷ [];
}

abbrev link_with_entries : List StreamItem → FilmLink
link_with_entries entries = record {
  counts = record { serial = 0; pages = 3; packets = 5; lost = 1 };
  ident = record { channels = 1; rate = 8000; short = 8; long = 8 };
  setup = setup;
  entries = entries;
}

-- a packet that is no audio packet is skipped; one that names a mode that is not there is bad
gaps_alone : film_line no_tables (link_with_entries (lost ∷ packet (1 ∷ []) None ∷ packet (6 ∷ []) None ∷ []) ∷ []) ≡ gap 0 kinds.Lost ∷ gap 0 kinds.Bad ∷ []
unfolding film_line decoded_entries line link_line link_cuts trimmed front_cut end_cut marks linear_decode head_of block_head_at window_flags_at count_leading_zeros
gaps_alone = refl

-- blocks without a floor are silent: two that follow each other give four frames, and none where a
-- loss lies between them
silent_blocks : film_line no_tables (link_with_entries (packet (0 ∷ []) None ∷ packet (0 ∷ []) None ∷ lost ∷ packet (0 ∷ []) None ∷ []) ∷ []) ≡ map (frame 0) (replicate 4 (pos 0 ∷ [])) ++ gap 0 kinds.Lost ∷ []
unfolding film_line decoded_entries line link_line link_cuts trimmed front_cut end_cut marks linear_decode head_of block_head_at window_flags_at count_leading_zeros nonzero_values_at floor_values floor_finals group_steps pass_steps steps decoded_from residue_vectors wave without_steps sum_at transformed windowed frames_between read_curve read_curves wanted_channels replaced with_submap channel_residues all_values packet_parts block_by_mode packet_block
silent_blocks = refl

-- ---- a line that sounds

-- every decibel value is 1, and every slope and cosine
abbrev even_tables : ConstantTables
even_tables = record {
  scale = 23;
  decibels = replicate 256 (2 ^ 30);
  slopes = replicate 8160 (2 ^ 23);
  cosines = replicate 8192 (2 ^ 23);
}

-- a floor that is flat, and a book whose one entry is 0.25: bin 0 alone has a value
abbrev sounding : SetupFields
sounding = record {
  books = record {
    dimensions = 1;
    lengths = Some 1 ∷ [];
    lookup = Some (record { kind = Lattice; minimum = 0x62400001; delta = 0; sequence = false; multiplicands = 0 ∷ [] });
  } ∷ [];
  floors = record { partitions = []; classes = []; multiplier = 1; x_values = 0 ∷ 32 ∷ [] } ∷ [];
  residues = record { kind = InRow; begin = 0; end = 1; partition_size = 1; class_book = 0; cascades = (Some 0 ∷ replicate 7 None) ∷ [] } ∷ [];
  mappings = record { couplings = []; mux = 0 ∷ []; submaps = record { floor = 0; residue = 0 } ∷ [] } ∷ [];
  modes = record { long = false; mapping = 0 } ∷ [];
}

abbrev sounding_link : List StreamItem → FilmLink
sounding_link entries = record {
  counts = record { serial = 1; pages = 3; packets = 5; lost = 0 };
  ident = record { channels = 1; rate = 8000; short = 64; long = 64 };
  setup = sounding;
  entries = entries;
}

-- a sample of 0, and one of half of the lowest value, so many times
abbrev silent : ℕ → List ℕ
silent count = replicate (2 * count) 0x00

abbrev low : ℕ → List ℕ
low count = flat_map (λ (n : ℕ). 0x00 ∷ 0xc0 ∷ []) (replicate count 0)

-- The first block is below 0 from its middle on; the second is above 0 for 16 values, and below 0
-- from there on.
sounds : dump_of even_tables (sounding_link (packet (2 ∷ 0 ∷ 0 ∷ []) None ∷ packet (2 ∷ 0 ∷ 0 ∷ []) None ∷ []) ∷ []) ≡ silent 16 ++ low 16
unfolding film_line decoded_entries line link_line link_cuts trimmed front_cut end_cut marks linear_decode line_bytes frame_bytes head_of block_head_at window_flags_at count_leading_zeros nonzero_values_at floor_values floor_finals group_steps pass_steps steps decoded_from residue_vectors wave without_steps sum_at transformed windowed frames_between read_curve read_curves wanted_channels replaced with_submap channel_residues all_values packet_parts block_by_mode packet_block entry_or_0_at partition_values_at y_values_at nearest_below nearest_above low_neighbour high_neighbour render_point predicted final_value values_up_to is_flagged finals_up_to finals_of curve_at reading_places after_reading after_step root_up_to root_of value_at vector_of vector_at size_of first_free words_behind filled book_words digits_of begins_with begins entry_begun entry_by entry_at look_high shaped fix
sounds = refl

-- a third block, and a last page that ends after 40 frames
ends_early : dump_of even_tables (sounding_link (packet (2 ∷ 0 ∷ 0 ∷ []) None ∷ packet (2 ∷ 0 ∷ 0 ∷ []) None ∷ packet (2 ∷ 0 ∷ 0 ∷ []) (Some (record { granule = 40; last = true })) ∷ []) ∷ []) ≡ silent 16 ++ low 16 ++ silent 8
unfolding film_line decoded_entries line link_line link_cuts trimmed front_cut end_cut marks linear_decode line_bytes frame_bytes head_of block_head_at window_flags_at count_leading_zeros nonzero_values_at floor_values floor_finals group_steps pass_steps steps decoded_from residue_vectors wave without_steps sum_at transformed windowed frames_between read_curve read_curves wanted_channels replaced with_submap channel_residues all_values packet_parts block_by_mode packet_block entry_or_0_at partition_values_at y_values_at nearest_below nearest_above low_neighbour high_neighbour render_point predicted final_value values_up_to is_flagged finals_up_to finals_of curve_at reading_places after_reading after_step root_up_to root_of value_at vector_of vector_at size_of first_free words_behind filled book_words digits_of begins_with begins entry_begun entry_by entry_at look_high shaped fix
ends_early = refl
