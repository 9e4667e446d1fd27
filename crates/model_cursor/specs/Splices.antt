-- Splices: how a cursor goes over from the frames that it would have given to those of a new place
-- without a click (after vorbisfile's laps).
use Rattle.std.specs.Prelude.{ℕ, ◌+◌, ◌-◌, ◌*◌, ◌/◌, ◌^◌, min, nat_lt, if◌then◌else◌, ℤ, pos, ◌+ℤ◌, ◌*ℤ◌, List, [], ◌∷◌, length, take, drop, slice_index}
use Rattle.model_fixed.specs.Fixed.{shift_down}
use Rattle.model_synthesis.specs.Tables.{ConstantTables, slope}
use Rattle.model_line.specs.Decode.{LineItem, frame, gap, frame_count}
use Rattle.model_cursor.specs.declared.reply.Sought.{Sought}
use Rattle.model_cursor.specs.declared.reply.Sought.TheVariants as answers
use Rattle.model_line.specs.Blocks.{Frame}
use Rattle.model_cursor.specs.Runs.{run_at}
use Rattle.model_cursor.specs.Cursors.{CursorState, place_after, old_side}

-- What splices rest on besides the line: the tables of constants, and how long the short blocks of
-- each link are.
pub record Splicing : Type 0 where
  pub tables : ConstantTables
  pub shorts : List ℕ

-- ---- how many frames are mixed

-- the link of the first of these items, or where there is none the film's last
abbrev pub link_of_first : {F : Type 0} → ℕ → List (LineItem F) → ℕ
link_of_first last [] = last
link_of_first last (frame link value ∷ xs) = link
link_of_first last (gap link kind ∷ xs) = link

-- the link at a place of a line, of a film of so many links
abbrev pub link_at : {F : Type 0} → ℕ → List (LineItem F) → ℕ → ℕ
link_at links line place = link_of_first (links - 1) (drop place line)

-- how long the short blocks of the link at a place are
abbrev pub short_at : {F : Type 0} → List ℕ → List (LineItem F) → ℕ → ℕ
short_at shorts line place = slice_index shorts (link_at (length shorts) line place)

-- A splice from one place to another mixes half as many frames as the shorter of the short blocks
-- of their links are long: as many as the lesser slope has values.
unfoldable pub splice_len : {F : Type 0} → List ℕ → List (LineItem F) → ℕ → ℕ → ℕ
splice_len shorts line old new = min (short_at shorts line old) (short_at shorts line new) / 2

-- ---- how they are mixed

-- the weight of the new side in frame i of so many: the square of the slope, in units of 2 ^ -scale
abbrev pub weight : ConstantTables → ℕ → ℕ → ℕ
weight tables frames i = slope tables frames i * slope tables frames i / 2 ^ tables.scale

-- the old and the new value by the weight of the new one and its rest, rounded down
abbrev pub mixed : ConstantTables → ℕ → ℤ → ℤ → ℤ
mixed tables new_weight old new =
    shift_down (new *ℤ pos new_weight +ℤ old *ℤ pos (2 ^ tables.scale - new_weight)) tables.scale

-- The frame of the new side, each channel mixed with the same one of the old side. A channel that
-- the old side lacks is silent there, and one that the new side lacks is not heard any more.
unfoldable pub mixed_frame : ConstantTables → ℕ → Frame → Frame → Frame
mixed_frame tables new_weight old [] = []
mixed_frame tables new_weight [] (d ∷ new) =
    mixed tables new_weight (pos 0) d ∷ mixed_frame tables new_weight [] new
mixed_frame tables new_weight (s ∷ old) (d ∷ new) =
    mixed tables new_weight s d ∷ mixed_frame tables new_weight old new

-- Frames of both sides, mixed one by one as long as both last, where the first of them is frame i
-- of so many.
unfoldable pub mixed_from : ConstantTables → ℕ → ℕ → List Frame → List Frame → List Frame
mixed_from tables frames i [] new = []
mixed_from tables frames i (s ∷ old) [] = []
mixed_from tables frames i (s ∷ old) (d ∷ new) =
    mixed_frame tables (weight tables frames i) s d ∷ mixed_from tables frames (i + 1) old new

-- The splice of an old cursor and a new place: the first frames of the run at the new place, mixed
-- with the frames that reads of the old cursor would give next.
unfoldable pub splice : Splicing → List (LineItem Frame) → CursorState → ℕ → List Frame
splice by line old new =
    let frames = splice_len by.shorts line old.place new in
    mixed_from by.tables frames 0 (old_side frames line old) (take frames (run_at line new))

-- ---- laps and crosses

-- What a lap answers, and the cursor then: it is a seek after which the first frames are a splice
-- with those that the cursor would have given.
unfoldable pub lap : Splicing → List (LineItem Frame) → ℕ → CursorState → Sought × CursorState
lap by line frames s =
    if nat_lt (frame_count line) frames then (answers.Invalid (frame_count line), s)
    else
    let place = place_after frames line in
    (answers.At frames, record { place = place; patch = splice by line s place })

-- The new cursor after a cross from an old one, which stays: where it was, and its first frames are
-- a splice.
abbrev pub crossed : Splicing → List (LineItem Frame) → CursorState → CursorState → CursorState
crossed by line old new = record { place = new.place; patch = splice by line old new.place }
