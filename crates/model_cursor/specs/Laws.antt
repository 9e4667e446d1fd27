-- What holds of every cursor.
use Rattle.std.specs.Prelude.{◌≡◌, ◌≢◌, ℕ, ◌≤◌, ◌<◌, List, [], ◌∷◌, ◌++◌, length, map, drop}
use Rattle.model_line.specs.Decode.{LineItem, frame, gap, frame_count}
use Rattle.model_line.specs.Origins.{Origin, frame_by}
use Rattle.model_line.specs.Blocks.{Frame}
use Rattle.model_cursor.specs.Runs.{frames_of_link, run_at}
use Rattle.model_cursor.specs.Cursors.{CursorState, IsCursor, frames_before, tell, next_frames, passed, read, place_after, seek}

-- items do not begin with a frame of this link
abbrev pub EndsRun : ℕ → List (LineItem Frame) → Type 0
EndsRun link [] = Unit {0}
EndsRun link (frame other value ∷ xs) = other ≢ link
EndsRun link (gap other kind ∷ xs) = Unit {0}

-- The frames of a link with which items begin are all of them: the next item is no such frame.
abbrev pub RunsAreLongest : Type 0
RunsAreLongest = (link : ℕ) (xs : List (LineItem Frame)) → let frames = frames_of_link link xs in
    (xs ≡ map (frame link) frames ++ drop (length frames) xs)
    × EndsRun link (drop (length frames) xs)

-- Behind some of the frames that are next, and not all, the rest of them are next.
abbrev pub ReadsGoOn : Type 0
ReadsGoOn = (line : List (LineItem Frame)) (s : CursorState) (count : ℕ) → IsCursor line s
    → count < length (next_frames line s)
    → next_frames line (passed count s) ≡ drop count (next_frames line s)

-- Behind a patch the frames of the run are next, as they are.
abbrev pub RunsGoOnBehindPatches : Type 0
RunsGoOnBehindPatches = (line : List (LineItem Frame)) (s : CursorState)
    → drop (length s.patch) (next_frames line s) ≡ drop (length s.patch) (run_at line s.place)

-- A seek within the line goes to a place with so many frames before it, and to no later one than
-- another such place.
abbrev pub SeeksGoToTheLeastPlace : Type 0
SeeksGoToTheLeastPlace = (line : List (LineItem Frame)) (frames : ℕ) → frames ≤ frame_count line
    → (frames_before line (place_after frames line) ≡ frames)
    × ((place : ℕ) → frames ≤ frames_before line place → place_after frames line ≤ place)

-- Reads and seeks leave a cursor of the line.
abbrev pub StatesStayCursors : Type 0
StatesStayCursors = (line : List (LineItem Frame)) (s : CursorState) (frames : ℕ) → IsCursor line s
    → IsCursor line (read line frames s).1 × IsCursor line (seek line frames s).1

-- Whatever the frames of a line are, seeks and tells are those of the line by origins.
abbrev pub SeeksByOrigins : Type 0
SeeksByOrigins = (value : Origin → Frame) (line : List (LineItem Origin)) (s : CursorState)
    → (tell (map (frame_by value) line) s ≡ tell line s)
    × ((frames : ℕ) → seek (map (frame_by value) line) frames s ≡ seek line frames s)
