-- Examples by computation: splices under slopes that are all one half.
use Rattle.std.proofs.Common.{◌≡◌, ℕ, ◌^◌, List, [], ◌∷◌, ◌++◌, refl, pos}
use Rattle.std.specs.Prelude.{map, replicate, ℤ, neg_ℤ}
use Rattle.model_synthesis.specs.Tables.{ConstantTables}
use Rattle.model_line.specs.declared.row.GapKind.TheVariants as kinds
use Rattle.model_line.specs.Decode.{LineItem, frame, gap, frame_count}
use Rattle.model_cursor.specs.declared.reply.Reply.TheVariants as replies
use Rattle.model_cursor.specs.declared.reply.Sought.TheVariants as answers
use Rattle.model_line.specs.Blocks.{Frame}
use Rattle.model_cursor.specs.Runs.{frames_of_link, run}
use Rattle.model_cursor.specs.Cursors.{CursorState, start, next_frames, read, place_after, seek, old_side}
use Rattle.model_cursor.specs.Splices.{Splicing, splice_len, mixed_frame, mixed_from, splice, lap, crossed}

abbrev halves : ConstantTables
halves = record { scale = 23; decibels = []; slopes = replicate 32 (2 ^ 22); cosines = [] }

abbrev by : Splicing
by = record { tables = halves; shorts = 64 ∷ 64 ∷ [] }

abbrev mono : ℤ → Frame
mono v = v ∷ []

abbrev stereo : ℤ → ℤ → Frame
stereo v w = v ∷ w ∷ []

abbrev half_silent : Frame → Frame → List Frame
half_silent silent sounding = replicate 16 silent ++ replicate 16 sounding

-- what sounds, and one quarter and three quarters of it
abbrev sound : ℤ
sound = neg_ℤ (pos 262144)

abbrev one_quarter : ℤ
one_quarter = neg_ℤ (pos 65536)

abbrev three_quarters : ℤ
three_quarters = neg_ℤ (pos 196608)

-- a cursor without a patch
abbrev at : ℕ → CursorState
at place = record { place = place; patch = [] }

abbrev patched : ℕ → List Frame → CursorState
patched place patch = record { place = place; patch = patch }

-- two links of 32 frames each
abbrev links : List Frame → List Frame → List (LineItem Frame)
links first second = map (frame 0) first ++ map (frame 1) second

-- frames that sound in their second half, and silence
abbrev sounding : List Frame
sounding = half_silent (mono (pos 0)) (mono sound)

abbrev silence : List Frame
silence = replicate 32 (mono (pos 0))

abbrev film : List (LineItem Frame)
film = links sounding silence

-- ---- laps

-- a quarter of each frame is of the new side, and three quarters are of the old one
onto_silence : lap by film 32 start ≡ (answers.At 32, patched 32 (half_silent (mono (pos 0)) (mono three_quarters)))
unfolding lap splice splice_len mixed_from mixed_frame old_side next_frames run frames_of_link place_after frame_count
onto_silence = refl

-- a read gives the patch
patch_is_read : read film 32 (lap by film 32 start).1 ≡ (replies.Frames 1 (half_silent (mono (pos 0)) (mono three_quarters)), at 64)
unfolding read lap splice splice_len mixed_from mixed_frame old_side next_frames run frames_of_link place_after frame_count
patch_is_read = refl

-- the old side is the last two frames of its run, and silence behind them
from_the_last_frames : lap by film 32 (seek film 30 start).1 ≡ (answers.At 32, patched 32 (replicate 2 (mono three_quarters) ++ replicate 30 (mono (pos 0))))
unfolding lap seek splice splice_len mixed_from mixed_frame old_side next_frames run frames_of_link place_after frame_count
from_the_last_frames = refl

-- the old side of a second lap is the patch of the first: of 196608 three quarters are 147456
lap_after_a_lap : lap by film 32 (lap by film 32 start).1 ≡ (answers.At 32, patched 32 (half_silent (mono (pos 0)) (mono (neg_ℤ (pos 147456)))))
unfolding lap splice splice_len mixed_from mixed_frame old_side next_frames run frames_of_link place_after frame_count
lap_after_a_lap = refl

-- past the last frame a lap is invalid and changes nothing
past_the_end : lap by film 65 start ≡ (answers.Invalid 64, start)
unfolding lap splice splice_len mixed_from mixed_frame old_side next_frames run frames_of_link place_after frame_count
past_the_end = refl

-- at the end there is nothing to splice
to_the_end : lap by film 64 start ≡ (answers.At 64, at 64)
unfolding lap splice splice_len mixed_from mixed_frame old_side next_frames run frames_of_link place_after frame_count
to_the_end = refl

-- a seek leaves no patch
seek_after_a_lap : seek film 32 (lap by film 32 start).1 ≡ (answers.At 32, at 32)
unfolding lap seek splice splice_len mixed_from mixed_frame old_side next_frames run frames_of_link place_after frame_count
seek_after_a_lap = refl

read_after_that_seek : read film 32 (seek film 32 (lap by film 32 start).1).1 ≡ (replies.Frames 1 silence, at 64)
unfolding read lap seek splice splice_len mixed_from mixed_frame old_side next_frames run frames_of_link place_after frame_count
read_after_that_seek = refl

-- ---- links of other forms

-- two channels that sound in their second half
abbrev both_sounding : List Frame
both_sounding = half_silent (stereo (pos 0) (pos 0)) (stereo sound sound)

-- onto a link with more channels: where the old side has none, it is silent
onto_more_channels : lap by (links sounding both_sounding) 32 start ≡ (answers.At 32, patched 32 (half_silent (stereo (pos 0) (pos 0)) (stereo sound one_quarter)))
unfolding lap splice splice_len mixed_from mixed_frame old_side next_frames run frames_of_link place_after frame_count
onto_more_channels = refl

-- onto a link with fewer channels: what the new side lacks is not heard
onto_fewer_channels : lap by (links both_sounding silence) 32 start ≡ (answers.At 32, patched 32 (half_silent (mono (pos 0)) (mono three_quarters)))
unfolding lap splice splice_len mixed_from mixed_frame old_side next_frames run frames_of_link place_after frame_count
onto_fewer_channels = refl

-- between links whose short blocks differ in length, half of the shorter ones are mixed
onto_longer_blocks : splice_len (64 ∷ 256 ∷ []) film 0 32 ≡ 32
unfolding splice_len
onto_longer_blocks = refl

onto_shorter_blocks : splice_len (256 ∷ 64 ∷ []) film 0 32 ≡ 32
unfolding splice_len
onto_shorter_blocks = refl

-- within a link it is half of its own
within_a_link : splice_len (256 ∷ 64 ∷ []) film 0 31 ≡ 128
unfolding splice_len
within_a_link = refl

-- and at the end of the line its last link counts
at_the_end : splice_len (256 ∷ 64 ∷ []) film 64 0 ≡ 32
unfolding splice_len
at_the_end = refl

-- ---- gaps

-- two frames, a gap of a loss, and two frames
abbrev broken : List (LineItem Frame)
broken = frame 0 (mono sound) ∷ frame 0 (mono sound) ∷ gap 0 kinds.Lost ∷ frame 0 (mono (pos 0)) ∷ frame 0 (mono (pos 0)) ∷ []

-- before a gap there is nothing to splice, and the gap is told by the next read
before_a_gap : lap by broken 2 start ≡ (answers.At 2, at 2)
unfolding lap splice splice_len mixed_from mixed_frame old_side next_frames run frames_of_link place_after frame_count
before_a_gap = refl

-- a cursor before a gap has silence for its old side
from_a_gap : lap by broken 0 (at 2) ≡ (answers.At 0, patched 0 (replicate 2 (mono one_quarter)))
unfolding lap splice splice_len mixed_from mixed_frame old_side next_frames run frames_of_link place_after frame_count
from_a_gap = refl

-- ---- crosses

-- the new cursor stays where it is, and begins with a splice
cross : crossed by film start (at 32) ≡ patched 32 (half_silent (mono (pos 0)) (mono three_quarters))
unfolding splice splice_len mixed_from mixed_frame old_side next_frames run frames_of_link
cross = refl

-- it is what a lap of the old one to that place would be
cross_as_a_lap : crossed by film start (seek film 32 start).1 ≡ (lap by film 32 start).1
unfolding lap seek splice splice_len mixed_from mixed_frame old_side next_frames run frames_of_link place_after frame_count
cross_as_a_lap = refl
