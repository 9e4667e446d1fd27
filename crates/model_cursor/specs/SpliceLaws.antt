-- What holds of every splice, lap and cross.
use Rattle.std.specs.Prelude.{◌≡◌, ℕ, ◌^◌, ◌≤◌, ◌<◌, min, ℤ, pos, ◌≤ℤ◌, List, [], length, map, take, slice_index_or}
use Rattle.std.specs.Int.{int_min, int_max}
use Rattle.model_synthesis.specs.Tables.{ConstantTables, AreTables}
use Rattle.model_line.specs.Decode.{LineItem}
use Rattle.model_line.specs.Blocks.{Frame}
use Rattle.model_cursor.specs.Runs.{run_at}
use Rattle.model_cursor.specs.Cursors.{CursorState, IsCursor, next_frames, place_after, seek}
use Rattle.model_cursor.specs.Splices.{Splicing, splice_len, weight, mixed, splice, lap, crossed}

-- ---- values

-- A weight is a part of one whole, and its rest is the other part.
abbrev pub WeightsAreParts : Type 0
WeightsAreParts = (tables : ConstantTables) (frames i : ℕ) → AreTables tables
    → weight tables frames i ≤ 2 ^ tables.scale

-- A mixed value lies between the two that it is made of.
abbrev pub MixedLiesBetween : Type 0
MixedLiesBetween = (tables : ConstantTables) (frames i : ℕ) (old new : ℤ) → AreTables tables
    → let value = mixed tables (weight tables frames i) old new in
    (int_min old new ≤ℤ value) × (value ≤ℤ int_max old new)

-- Where both sides are equal, nothing changes.
abbrev pub EqualSidesStay : Type 0
EqualSidesStay = (tables : ConstantTables) (frames i : ℕ) (value : ℤ) → AreTables tables
    → mixed tables (weight tables frames i) value value ≡ value

-- ---- frames

-- A splice has as many frames as are mixed, or as the run at the new place has if that has fewer.
abbrev pub SplicesFitTheRun : Type 0
SplicesFitTheRun = (by : Splicing) (line : List (LineItem Frame)) (old : CursorState) (new : ℕ)
    → length (splice by line old new)
    ≡ min (splice_len by.shorts line old.place new) (length (run_at line new))

-- Each of its frames has as many values as the one that it stands for.
abbrev pub SplicesKeepChannels : Type 0
SplicesKeepChannels = (by : Splicing) (line : List (LineItem Frame)) (old : CursorState) (new : ℕ)
    → let patch = splice by line old new in
    let channels = map (λ (f : Frame). length f) in
    channels patch ≡ channels (take (length patch) (run_at line new))

-- the value of a channel in a frame of a list; one that is lacking is silent
abbrev pub value_in : List Frame → ℕ → ℕ → ℤ
value_in frames i c = slice_index_or (slice_index_or frames i []) c (pos 0)

-- Each value of a splice lies between the one that would have been heard next and the one of the
-- run at the new place.
abbrev pub SplicesLieBetween : Type 0
SplicesLieBetween = (by : Splicing) (line : List (LineItem Frame)) (old : CursorState) (new i c : ℕ)
    → AreTables by.tables
    → let patch = splice by line old new in
    i < length patch
    → c < length (slice_index_or patch i [])
    → let before = value_in (next_frames line old) i c in
    let after = value_in (run_at line new) i c in
    (int_min before after ≤ℤ value_in patch i c) × (value_in patch i c ≤ℤ int_max before after)

-- ---- cursors

-- Laps and crosses leave cursors of the line.
abbrev pub SplicedStayCursors : Type 0
SplicedStayCursors = (by : Splicing) (line : List (LineItem Frame)) (s : CursorState)
    → IsCursor line s
    → ((frames : ℕ) → IsCursor line (lap by line frames s).1)
    × ((old : CursorState) → IsCursor line (crossed by line old s))

-- A lap answers what a seek answers, and stands where it does.
abbrev pub LapsGoWhereSeeksGo : Type 0
LapsGoWhereSeeksGo = (by : Splicing) (line : List (LineItem Frame)) (s : CursorState) (frames : ℕ)
    → let lapped = lap by line frames s in
    let sought = seek line frames s in
    (lapped.0 ≡ sought.0) × (lapped.1.place ≡ sought.1.place)

-- Where there is nothing to splice, a lap is a seek.
abbrev pub LapsWithoutSplicesAreSeeks : Type 0
LapsWithoutSplicesAreSeeks = (by : Splicing) (line : List (LineItem Frame)) (s : CursorState)
    (frames : ℕ) → splice by line s (place_after frames line) ≡ []
    → lap by line frames s ≡ seek line frames s
