-- The runs of a line: frames of one link that follow each other without a gap.
use Rattle.std.specs.Prelude.{ℕ, ◌==◌, if◌then◌else◌, List, [], ◌∷◌, drop}
use Rattle.model_line.specs.Decode.{LineItem, frame, gap}

-- the frames of a link with which items begin, up to the first item that is none
unfoldable pub frames_of_link : {F : Type 0} → ℕ → List (LineItem F) → List F
frames_of_link link [] = []
frames_of_link link (frame other value ∷ xs) =
    if other == link then value ∷ frames_of_link link xs else []
frames_of_link link (gap other kind ∷ xs) = []

-- The run with which items begin: the longest list of frames of one link. At a gap and at the end
-- it is empty.
unfoldable pub run : {F : Type 0} → List (LineItem F) → List F
run [] = []
run (frame link value ∷ xs) = value ∷ frames_of_link link xs
run (gap link kind ∷ xs) = []

-- the run at a place of a line
abbrev pub run_at : {F : Type 0} → List (LineItem F) → ℕ → List F
run_at line place = run (drop place line)
