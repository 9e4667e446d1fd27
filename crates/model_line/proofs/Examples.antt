-- Examples by computation: lines of films of one link or two, with short blocks of 64 and long ones
-- of 256.
use Rattle.std.proofs.Common.{◌≡◌, ℕ, true, false, List, [], ◌∷◌, ◌++◌, None, Some, refl}
use Rattle.model_line.specs.declared.row.GapKind.TheVariants as kinds
use Rattle.model_line.specs.declared.row.RowKind.{RowKind}
use Rattle.model_line.specs.declared.row.RowKind.TheVariants.{Lost, Bad, Skip, Block}
use Rattle.model_line.specs.declared.row.Row.{Row}
use Rattle.model_line.specs.Decode.{LinkEntry, LineItem, gap, linear_decode, frame_count, gap_count}
use Rattle.model_line.specs.Trim.{marks, front_cut, end_cut, trimmed}
use Rattle.model_line.specs.Lines.{link_cuts, link_line, line}
use Rattle.model_line.specs.Origins.{entries_of, numbered_entries, number_behind, numbered_links, Origin, line_origins, span_origins}

abbrev plain : RowKind → Row
plain kind = record { kind = kind; mark = None }

abbrev marked : RowKind → ℕ → Row
marked kind granule = record { kind = kind; mark = Some (record { granule = granule; last = false }) }

abbrev ending : RowKind → ℕ → Row
ending kind granule = record { kind = kind; mark = Some (record { granule = granule; last = true }) }

abbrev short : RowKind
short = Block false

abbrev long : RowKind
long = Block true

abbrev link_of : List Row → List (LinkEntry ℕ)
link_of rows = entries_of (record { channels = 1; rate = 8000; short = 64; long = 256; rows = rows })

abbrev line_of_rows : List Row → List (LineItem Origin)
line_of_rows rows = line_origins (link_of rows ∷ [])

-- the only page is first and last: nothing goes at the front, the end goes
first_and_last : line_of_rows (plain short ∷ plain short ∷ ending short 40 ∷ []) ≡ span_origins 0 0 0 32 ++ span_origins 0 1 0 8
unfolding line link_line link_cuts trimmed front_cut end_cut marks linear_decode numbered_links numbered_entries number_behind
first_and_last = refl

-- the first page has a smaller granule than frames: 44 frames go at the front, and with them a
-- whole pair of blocks
begins_late : line_of_rows (plain short ∷ plain short ∷ marked short 20 ∷ ending short 52 ∷ []) ≡ span_origins 0 1 12 32 ++ span_origins 0 2 0 32
unfolding line link_line link_cuts trimmed front_cut end_cut marks linear_decode numbered_links numbered_entries number_behind
begins_late = refl

begins_late_total : frame_count (line_of_rows (plain short ∷ plain short ∷ marked short 20 ∷ ending short 52 ∷ [])) ≡ 52
unfolding line link_line link_cuts trimmed front_cut end_cut marks linear_decode numbered_links numbered_entries number_behind frame_count
begins_late_total = refl

-- a loss: one gap, and no frames between the blocks at its sides
loss : line_of_rows (plain short ∷ plain short ∷ plain Lost ∷ plain short ∷ plain short ∷ []) ≡ span_origins 0 0 0 32 ++ (gap 0 kinds.Lost ∷ span_origins 0 2 0 32)
unfolding line link_line link_cuts trimmed front_cut end_cut marks linear_decode numbered_links numbered_entries number_behind
loss = refl

loss_counts : frame_count (line_of_rows (plain short ∷ plain short ∷ plain Lost ∷ plain short ∷ plain short ∷ [])) ≡ 64
unfolding line link_line link_cuts trimmed front_cut end_cut marks linear_decode numbered_links numbered_entries number_behind frame_count
loss_counts = refl

loss_gaps : gap_count (line_of_rows (plain short ∷ plain short ∷ plain Lost ∷ plain short ∷ plain short ∷ [])) ≡ 1
unfolding line link_line link_cuts trimmed front_cut end_cut marks linear_decode numbered_links numbered_entries number_behind gap_count
loss_gaps = refl

-- a skipped packet gives nothing and parts no blocks
skips : line_of_rows (plain short ∷ plain Skip ∷ plain short ∷ []) ≡ span_origins 0 0 0 32
unfolding line link_line link_cuts trimmed front_cut end_cut marks linear_decode numbered_links numbered_entries number_behind
skips = refl

-- the last granule is 0: no frame is left, and the gap is
nothing_left : line_of_rows (plain short ∷ plain short ∷ plain Bad ∷ plain short ∷ ending short 0 ∷ []) ≡ gap 0 kinds.Bad ∷ []
unfolding line link_line link_cuts trimmed front_cut end_cut marks linear_decode numbered_links numbered_entries number_behind
nothing_left = refl

-- the last granule is larger than the number of frames: nothing goes
nothing_goes : line_of_rows (plain short ∷ plain short ∷ ending short 65 ∷ []) ≡ span_origins 0 0 0 32 ++ span_origins 0 1 0 32
unfolding line link_line link_cuts trimmed front_cut end_cut marks linear_decode numbered_links numbered_entries number_behind
nothing_goes = refl

-- the marks of skipped and of bad packets count
marked_skip : line_of_rows (plain short ∷ plain short ∷ marked Skip 20 ∷ plain short ∷ []) ≡ span_origins 0 0 12 32 ++ span_origins 0 1 0 32
unfolding line link_line link_cuts trimmed front_cut end_cut marks linear_decode numbered_links numbered_entries number_behind
marked_skip = refl

marked_bad : line_of_rows (plain short ∷ plain short ∷ ending Bad 10 ∷ plain short ∷ plain short ∷ []) ≡ span_origins 0 0 0 10 ++ (gap 0 kinds.Bad ∷ span_origins 0 2 0 32)
unfolding line link_line link_cuts trimmed front_cut end_cut marks linear_decode numbered_links numbered_entries number_behind
marked_bad = refl

-- the last granule is less than the one before: all frames between the two marks go
granule_falls : line_of_rows (plain short ∷ marked short 32 ∷ plain short ∷ ending short 20 ∷ []) ≡ span_origins 0 0 0 32
unfolding line link_line link_cuts trimmed front_cut end_cut marks linear_decode numbered_links numbered_entries number_behind
granule_falls = refl

-- the first page ends before any frame is given: nothing goes at the front
begins_at_0 : line_of_rows (marked short 0 ∷ plain short ∷ plain short ∷ ending short 90 ∷ []) ≡ span_origins 0 0 0 32 ++ span_origins 0 1 0 32 ++ span_origins 0 2 0 26
unfolding line link_line link_cuts trimmed front_cut end_cut marks linear_decode numbered_links numbered_entries number_behind
begins_at_0 = refl

-- frames go at both ends of one pair of blocks
both_ends : line_of_rows (plain short ∷ marked short 30 ∷ ending long 90 ∷ []) ≡ span_origins 0 0 2 32 ++ span_origins 0 1 0 60
unfolding line link_line link_cuts trimmed front_cut end_cut marks linear_decode numbered_links numbered_entries number_behind
both_ends = refl

-- short and long neighbours in the four orders
short_short : frame_count (line_of_rows (plain short ∷ plain short ∷ [])) ≡ 32
unfolding line link_line link_cuts trimmed front_cut end_cut marks linear_decode numbered_links numbered_entries number_behind frame_count
short_short = refl

short_long : frame_count (line_of_rows (plain short ∷ plain long ∷ [])) ≡ 80
unfolding line link_line link_cuts trimmed front_cut end_cut marks linear_decode numbered_links numbered_entries number_behind frame_count
short_long = refl

long_short : frame_count (line_of_rows (plain long ∷ plain short ∷ [])) ≡ 80
unfolding line link_line link_cuts trimmed front_cut end_cut marks linear_decode numbered_links numbered_entries number_behind frame_count
long_short = refl

long_long : frame_count (line_of_rows (plain long ∷ plain long ∷ [])) ≡ 128
unfolding line link_line link_cuts trimmed front_cut end_cut marks linear_decode numbered_links numbered_entries number_behind frame_count
long_long = refl

-- two links: the numbers of blocks go on in the second, and nothing lies between the links
two_links : line_origins (link_of (plain short ∷ plain short ∷ []) ∷ link_of (plain Lost ∷ plain short ∷ plain long ∷ []) ∷ []) ≡ span_origins 0 0 0 32 ++ (gap 1 kinds.Lost ∷ span_origins 1 2 0 80)
unfolding line link_line link_cuts trimmed front_cut end_cut marks linear_decode numbered_links numbered_entries number_behind
two_links = refl
