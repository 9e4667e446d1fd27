-- Examples by computation: cursors on short lines.
use Rattle.std.proofs.Common.{◌≡◌, ℕ, suc, List, [], ◌∷◌, ◌++◌, refl, pos}
use Rattle.model_line.specs.declared.item.Half.TheVariants.{Left, Right}
use Rattle.model_line.specs.declared.item.Item.{Item}
use Rattle.model_line.specs.declared.item.Item.TheVariants as variants
use Rattle.model_line.specs.declared.row.GapKind.TheVariants as kinds
use Rattle.model_line.specs.Decode.{LineItem, frame, gap, frame_count}
use Rattle.model_line.specs.Origins.{listed}
use Rattle.model_line.specs.Index.{Indexed}
use Rattle.model_cursor.specs.declared.need.Need.{Need}
use Rattle.model_cursor.specs.declared.need.Task.TheVariants.{Read}
use Rattle.model_cursor.specs.declared.reply.Reply.TheVariants as replies
use Rattle.model_cursor.specs.declared.reply.Sought.TheVariants as answers
use Rattle.model_line.specs.Blocks.{Frame}
use Rattle.model_cursor.specs.FrameLists.{parts_of, frames_in}
use Rattle.model_cursor.specs.Runs.{frames_of_link, run}
use Rattle.model_cursor.specs.Cursors.{CursorState, start, tell, next_frames, read, place_after, seek, old_side}
use Rattle.model_cursor.specs.Plans.{needs_between, needs}

abbrev value : ℕ → Frame
value n = pos n ∷ []

abbrev at : ℕ → CursorState
at place = record { place = place; patch = [] }

-- two frames, a gap of a loss, a frame, and two frames of another link
abbrev film : List (LineItem Frame)
film = frame 0 (value 10) ∷ frame 0 (value 11) ∷ gap 0 kinds.Lost ∷ frame 0 (value 12) ∷ frame 1 (value 13) ∷ frame 1 (value 14) ∷ []

-- a read ends before a gap, though more frames are wanted
up_to_a_gap : read film 9 start ≡ (replies.Frames 0 (value 10 ∷ value 11 ∷ []), at 2)
unfolding read next_frames run frames_of_link
up_to_a_gap = refl

-- at the gap the gap is told, and the cursor stands behind it
at_the_gap : read film 9 (at 2) ≡ (replies.Gap kinds.Lost, at 3)
unfolding read next_frames run frames_of_link
at_the_gap = refl

-- a read ends where a link does
up_to_a_link : read film 9 (at 3) ≡ (replies.Frames 0 (value 12 ∷ []), at 4)
unfolding read next_frames run frames_of_link
up_to_a_link = refl

-- fewer frames than the run has
fewer : read film 1 (at 4) ≡ (replies.Frames 1 (value 13 ∷ []), at 5)
unfolding read next_frames run frames_of_link
fewer = refl

-- at the end there is the end
at_the_end : read film 1 (at 6) ≡ (replies.End, at 6)
unfolding read next_frames run frames_of_link
at_the_end = refl

-- a patch stands in place of the first frames, and what is left of it stays
patched : read film 1 (record { place = 4; patch = value 7 ∷ value 8 ∷ [] }) ≡ (replies.Frames 1 (value 7 ∷ []), record { place = 5; patch = value 8 ∷ [] })
unfolding read next_frames run frames_of_link
patched = refl

behind_the_patch : read film 9 (record { place = 4; patch = value 7 ∷ [] }) ≡ (replies.Frames 1 (value 7 ∷ value 14 ∷ []), at 6)
unfolding read next_frames run frames_of_link
behind_the_patch = refl

-- a seek to a frame behind a gap goes before the gap, and drops a patch
before_the_gap : seek film 2 (record { place = 4; patch = value 7 ∷ [] }) ≡ (answers.At 2, at 2)
unfolding seek place_after frame_count
before_the_gap = refl

-- a seek to the number of all frames goes to the end
to_the_end : seek film 5 start ≡ (answers.At 5, at 6)
unfolding seek place_after frame_count
to_the_end = refl

-- a seek past it changes nothing
past_the_end : seek film 6 (record { place = 4; patch = value 7 ∷ [] }) ≡ (answers.Invalid 5, record { place = 4; patch = value 7 ∷ [] })
unfolding seek place_after frame_count
past_the_end = refl

-- a cursor tells the frames before it, and no gap
tells_frames : tell film (at 4) ≡ 3
unfolding frame_count
tells_frames = refl

-- the old side ends with its run, and silence follows
ends_early : old_side 4 film (at 4) ≡ value 13 ∷ value 14 ∷ [] ∷ [] ∷ []
unfolding old_side next_frames run frames_of_link
ends_early = refl

at_a_gap : old_side 2 film (at 2) ≡ [] ∷ [] ∷ []
unfolding old_side next_frames run frames_of_link
at_a_gap = refl

-- two channels, frame after frame
stereo : frames_in 2 (pos 1 ∷ pos 2 ∷ pos 3 ∷ pos 4 ∷ []) ≡ (pos 1 ∷ pos 2 ∷ []) ∷ (pos 3 ∷ pos 4 ∷ []) ∷ []
unfolding parts_of
stereo = refl

-- ---- plans

abbrev span : ℕ → ℕ → ℕ → Item
span link block from_start = variants.Span (record { link = link; block = block; from = 0; to = 4; start = from_start })

-- spans of four frames each: two, a gap, one, and one of another link
abbrev items : List Item
items = span 0 0 0 ∷ span 0 1 4 ∷ variants.Gap 0 kinds.Bad ∷ span 0 3 8 ∷ span 1 5 12 ∷ []

abbrev index : Indexed
index = record { items = items; links = []; blocks = 7 }

abbrev both : ℕ → List Need
both block = record { block = block; half = Right } ∷ record { block = suc block; half = Left } ∷ []

-- one frame needs two halves
one_frame : needs index 5 (Read 1) ≡ both 1
unfolding needs_between listed run frames_of_link frame_count
one_frame = refl

-- two frames at a border of spans need four
at_a_border : needs index 3 (Read 2) ≡ both 0 ++ both 1
unfolding needs_between listed run frames_of_link frame_count
at_a_border = refl

-- a read up to a gap needs nothing behind it, however many frames are wanted
before_a_gap : needs index 4 (Read 65536) ≡ both 1
unfolding needs_between listed run frames_of_link frame_count
before_a_gap = refl

-- at a gap nothing is needed
gap_needs_nothing : needs index 8 (Read 9) ≡ []
unfolding needs_between listed run frames_of_link frame_count
gap_needs_nothing = refl

-- behind a gap, and no further than the link
behind_a_gap : needs index 9 (Read 9) ≡ both 3
unfolding needs_between listed run frames_of_link frame_count
behind_a_gap = refl

-- at the end nothing is needed
end_needs_nothing : needs index 17 (Read 9) ≡ []
unfolding needs_between listed run frames_of_link frame_count
end_needs_nothing = refl
