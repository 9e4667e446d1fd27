-- Lists of frames.
use Rattle.std.specs.Prelude.{ℕ, zero, suc, ◌/◌, List, [], ◌∷◌, length, take, drop, ℤ}
use Rattle.std.specs.List.{flat_map}
use Rattle.model_line.specs.Blocks.{Frame}

-- so many parts of a list, one after the other, each of this length
unfoldable pub parts_of : {A : Type 0} → ℕ → ℕ → List A → List (List A)
parts_of zero size xs = []
parts_of (suc count) size xs = take size xs ∷ parts_of count size (drop size xs)

-- the frames of so many channels whose values these are, frame after frame
abbrev pub frames_in : ℕ → List ℤ → List Frame
frames_in channels values = parts_of (length values / channels) channels values

-- the values of frames, frame after frame
abbrev pub values_of : List Frame → List ℤ
values_of frames = flat_map (λ (f : Frame). f) frames
