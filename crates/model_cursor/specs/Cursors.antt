-- Cursors on a line: where they stand, and what a read, a seek and a tell answer.
use Rattle.std.specs.Prelude.{ℕ, zero, suc, ◌+◌, ◌-◌, ◌≤◌, nat_lt, if◌then◌else◌, List, [], ◌∷◌, ◌++◌, length, take, drop, replicate}
use Rattle.model_line.specs.Decode.{LineItem, frame, gap, frame_count}
use Rattle.model_cursor.specs.declared.reply.Reply.{Reply}
use Rattle.model_cursor.specs.declared.reply.Reply.TheVariants as replies
use Rattle.model_cursor.specs.declared.reply.Sought.{Sought}
use Rattle.model_cursor.specs.declared.reply.Sought.TheVariants as answers
use Rattle.model_line.specs.Blocks.{Frame}
use Rattle.model_cursor.specs.Runs.{run_at}

-- A cursor: how many items of the line are before it, and its patch, the frames that are given in
-- place of the first ones of the run there.
pub record CursorState : Type 0 where
  pub place : ℕ
  pub patch : List Frame

-- it stands at a place of the line, and its patch is no longer than the run there
pub record IsCursor {F : Type 0} (line : List (LineItem F)) (s : CursorState) : Type 0 where
  pub place : s.place ≤ length line
  pub patch : length s.patch ≤ length (run_at line s.place)

-- a cursor begins at the beginning of the line, without a patch
abbrev pub start : CursorState
start = record { place = 0; patch = [] }

-- ---- tell

-- how many frames are before a place of a line
abbrev pub frames_before : {F : Type 0} → List (LineItem F) → ℕ → ℕ
frames_before line place = frame_count (take place line)

-- what a cursor tells
abbrev pub tell : {F : Type 0} → List (LineItem F) → CursorState → ℕ
tell line s = frames_before line s.place

-- ---- read

-- the frames that reads give next: those of the run, the first ones replaced by the patch
unfoldable pub next_frames : List (LineItem Frame) → CursorState → List Frame
next_frames line s = s.patch ++ drop (length s.patch) (run_at line s.place)

-- the cursor behind so many items more
abbrev pub passed : ℕ → CursorState → CursorState
passed count s = record { place = s.place + count; patch = drop count s.patch }

-- what a read answers, and the cursor then, where these items stand at its place and the read gives
-- these frames if it gives any
abbrev pub read_of : List (LineItem Frame) → List Frame → CursorState → Reply × CursorState
read_of [] given s = (replies.End, s)
read_of (gap link kind ∷ xs) given s = (replies.Gap kind, passed 1 s)
read_of (frame link value ∷ xs) given s = (replies.Frames link given, passed (length given) s)

-- A read of at most so many frames: at a gap the gap, at the end the end, else the first of the
-- frames that are next.
unfoldable pub read : List (LineItem Frame) → ℕ → CursorState → Reply × CursorState
read line frames s = read_of (drop s.place line) (take frames (next_frames line s)) s

-- ---- seek

-- the least place with so many frames before it
unfoldable pub place_after : {F : Type 0} → ℕ → List (LineItem F) → ℕ
place_after zero xs = 0
place_after (suc frames) [] = 0
place_after (suc frames) (frame link value ∷ xs) = 1 + place_after frames xs
place_after (suc frames) (gap link kind ∷ xs) = 1 + place_after (suc frames) xs

-- a cursor at the least place with so many frames before it, without a patch
abbrev pub placed : {F : Type 0} → List (LineItem F) → ℕ → CursorState
placed line frames = record { place = place_after frames line; patch = [] }

-- What a seek answers, and the cursor then: past the last frame of the line it is invalid and
-- changes nothing.
unfoldable pub seek : {F : Type 0} → List (LineItem F) → ℕ → CursorState
    → Sought × CursorState
seek line frames s =
    if nat_lt (frame_count line) frames then (answers.Invalid (frame_count line), s)
    else (answers.At frames, placed line frames)

-- ---- what a splice takes from an old cursor

-- The old side of a splice of so many frames: the frames that reads of the old cursor would give
-- next, and silence behind them. A channel that a frame lacks is silent, so that the frame without
-- channels is silence.
unfoldable pub old_side : ℕ → List (LineItem Frame) → CursorState → List Frame
old_side frames line s =
    let given = take frames (next_frames line s) in
    given ++ replicate (frames - length given) []
