-- What is written of a frame: its samples.
use Rattle.std.specs.Prelude.{ℕ, ℤ, List}
use Rattle.std.specs.List.{flat_map}
use Rattle.std.specs.Int.{w16, to_le_bytes, cast_unsigned}
use Rattle.model_synthesis.specs.Samples.{pcm}
use Rattle.model_line.specs.Blocks.{Frame}

-- a value's sample of 16 bits, in two bytes, the lower first
abbrev pub sample_bytes : ℤ → List ℕ
sample_bytes v = to_le_bytes w16 (cast_unsigned w16 (pcm v))

-- the samples of a frame, channel after channel
unfoldable pub frame_bytes : Frame → List ℕ
frame_bytes values = flat_map sample_bytes values
