-- Splices: how many frames they have and how many values each, and where laps and crosses go.
use Rattle.std.proofs.Common.{◌≡◌, ℕ, zero, suc, ◌+◌, ◌-◌, ◌≤◌, ◌<◌, min, pos, get_or, subst, Bool, true, false, nat_lt, cond, List, [], ◌∷◌, ◌++◌, length, map, take, refl, ap, ◌∙◌, arith, length-append, zero-add}
use Rattle.std.specs.Prelude.{replicate}
use Rattle.std.proofs.lemmas.List.{length-take, length-replicate, take-take, get_or-take}
use Rattle.model_synthesis.specs.Tables.{ConstantTables}
use Rattle.model_line.specs.Decode.{LineItem, frame_count}
use Rattle.model_cursor.specs.declared.reply.Sought.{Sought}
use Rattle.model_cursor.specs.declared.reply.Sought.TheVariants as answers
use Rattle.model_line.specs.Blocks.{Frame}
use Rattle.model_cursor.specs.Runs.{run_at}
use Rattle.model_cursor.specs.Cursors.{CursorState, IsCursor, next_frames, place_after, seek, old_side}
use Rattle.model_cursor.specs.Splices.{Splicing, splice_len, weight, mixed, mixed_frame, mixed_from, splice, lap}
use Rattle.model_cursor.specs.SpliceLaws.{SplicesFitTheRun, SplicesKeepChannels, value_in, SplicesLieBetween, SplicedStayCursors, LapsGoWhereSeeksGo, LapsWithoutSplicesAreSeeks}
use Rattle.model_cursor.proofs.Places.{place_after-within}
use Rattle.model_cursor.proofs.Mixing.{mixed_lies_between}

-- ---- frames

pub length-mixed_frame : (tables : ConstantTables) (w : ℕ) (old new : Frame) → length (mixed_frame tables w old new) ≡ length new
unfolding mixed_frame
length-mixed_frame tables w [] [] = refl
length-mixed_frame tables w (s ∷ old) [] = refl
length-mixed_frame tables w [] (d ∷ new) = ap suc (length-mixed_frame tables w [] new)
length-mixed_frame tables w (s ∷ old) (d ∷ new) = ap suc (length-mixed_frame tables w old new)

pub length-mixed_from : (tables : ConstantTables) (frames i : ℕ) (old new : List Frame) → length (mixed_from tables frames i old new) ≡ min (length old) (length new)
unfolding mixed_from
length-mixed_from tables frames i [] new = omega arith
length-mixed_from tables frames i (s ∷ old) [] = omega arith
length-mixed_from tables frames i (s ∷ old) (d ∷ new) = let rest = length-mixed_from tables frames (i + 1) old new in omega arith

abbrev pub channels : List Frame → List ℕ
channels = map (λ (f : Frame). length f)

channels_mixed : (tables : ConstantTables) (frames i : ℕ) (old new : List Frame) → channels (mixed_from tables frames i old new) ≡ channels (take (length (mixed_from tables frames i old new)) new)
unfolding mixed_from
channels_mixed tables frames i [] new = refl
channels_mixed tables frames i (s ∷ old) [] = refl
channels_mixed tables frames i (s ∷ old) (d ∷ new) = rw (length-mixed_frame tables (weight tables frames i) s d, channels_mixed tables frames (i + 1) old new) refl

-- the old side has as many frames as are asked for
pub length-old_side : (frames : ℕ) (line : List (LineItem Frame)) (s : CursorState) → length (old_side frames line s) ≡ frames
unfolding old_side
length-old_side frames line s =
    let given : List Frame = take frames (next_frames line s) in
    omega (arith, length-take frames (next_frames line s), length-append given (replicate (frames - length given) []), length-replicate {A = Frame} (frames - length given) [])

pub length-splice : (by : Splicing) (line : List (LineItem Frame)) (old : CursorState) (new : ℕ) → length (splice by line old new) ≡ min (splice_len by.shorts line old.place new) (length (run_at line new))
unfolding splice
length-splice by line old new =
    let frames : ℕ = splice_len by.shorts line old.place new in
    let mixed_len = length-mixed_from by.tables frames 0 (old_side frames line old) (take frames (run_at line new)) in
    omega (arith, length-old_side frames line old, length-take frames (run_at line new))

pub splices_fit_the_run : SplicesFitTheRun
splices_fit_the_run = λ by line old new. length-splice by line old new

pub splices_keep_channels : SplicesKeepChannels
unfolding splice
splices_keep_channels = λ by line old new.
    let frames : ℕ = splice_len by.shorts line old.place new in
    let patch : List Frame = splice by line old new in
    let fits : length patch ≤ frames = omega (arith, length-splice by line old new) in
    channels_mixed by.tables frames 0 (old_side frames line old) (take frames (run_at line new))
    ∙ ap channels (take-take (length patch) frames (run_at line new) fits)

-- ---- values

-- silence behind frames is what is heard there anyway
only_default : {A : Type 0} (n i : ℕ) (d : A) → get_or (replicate n d) i d ≡ d
only_default zero i d = refl
only_default (suc n) zero d = refl
only_default (suc n) (suc i) d = only_default n i d

default_behind : {A : Type 0} (xs : List A) (n i : ℕ) (d : A) → get_or (xs ++ replicate n d) i d ≡ get_or xs i d
default_behind [] n i d = only_default n i d
default_behind (x ∷ xs) n zero d = refl
default_behind (x ∷ xs) n (suc i) d = default_behind xs n i d

frame_of_old_side : (frames : ℕ) (line : List (LineItem Frame)) (s : CursorState) (i : ℕ) → i < frames → get_or (old_side frames line s) i [] ≡ get_or (next_frames line s) i []
unfolding old_side
frame_of_old_side frames line s i lt =
    let given : List Frame = take frames (next_frames line s) in
    default_behind given (frames - length given) i [] ∙ get_or-take frames (next_frames line s) i [] lt

-- a value of a mixed frame, and a frame of mixed ones
value_of_mixed : (tables : ConstantTables) (w : ℕ) (old new : Frame) (c : ℕ) → c < length new → get_or (mixed_frame tables w old new) c (pos 0) ≡ mixed tables w (get_or old c (pos 0)) (get_or new c (pos 0))
unfolding mixed_frame
value_of_mixed tables w old [] c lt = absurd (omega arith)
value_of_mixed tables w [] (d ∷ new) zero lt = refl
value_of_mixed tables w [] (d ∷ new) (suc c) lt = value_of_mixed tables w [] new c (omega arith)
value_of_mixed tables w (s ∷ old) (d ∷ new) zero lt = refl
value_of_mixed tables w (s ∷ old) (d ∷ new) (suc c) lt = value_of_mixed tables w old new c (omega arith)

frame_of_mixed : (tables : ConstantTables) (frames k : ℕ) (old new : List Frame) (i : ℕ) → i < length (mixed_from tables frames k old new)
    → get_or (mixed_from tables frames k old new) i [] ≡ mixed_frame tables (weight tables frames (k + i)) (get_or old i []) (get_or new i [])
unfolding mixed_from
frame_of_mixed tables frames k [] new i lt = absurd (omega arith)
frame_of_mixed tables frames k (s ∷ old) [] i lt = absurd (omega arith)
frame_of_mixed tables frames k (s ∷ old) (d ∷ new) zero lt = let e : k + 0 ≡ k = omega arith in rw e refl
frame_of_mixed tables frames k (s ∷ old) (d ∷ new) (suc i) lt =
    let e : k + suc i ≡ k + 1 + i = omega arith in
    rw e (frame_of_mixed tables frames (k + 1) old new i (omega arith))

-- the frame of a splice is what is next of the old side and of the run, mixed by its weight
pub frame_of_splice : (by : Splicing) (line : List (LineItem Frame)) (old : CursorState) (new i : ℕ) → i < length (splice by line old new)
    → get_or (splice by line old new) i [] ≡ mixed_frame by.tables (weight by.tables (splice_len by.shorts line old.place new) i) (get_or (next_frames line old) i []) (get_or (run_at line new) i [])
unfolding splice
frame_of_splice by line old new i lt =
    let frames : ℕ = splice_len by.shorts line old.place new in
    let less : i < frames = omega (arith, length-splice by line old new) in
    frame_of_mixed by.tables frames 0 (old_side frames line old) (take frames (run_at line new)) i lt
    ∙ rw (frame_of_old_side frames line old i less, get_or-take frames (run_at line new) i [] less, zero-add i) refl

pub splices_lie_between : SplicesLieBetween
splices_lie_between = λ by line old new i c is lt channel.
    let frames : ℕ = splice_len by.shorts line old.place new in
    let before : Frame = get_or (next_frames line old) i [] in
    let after : Frame = get_or (run_at line new) i [] in
    let w : ℕ = weight by.tables frames i in
    let same : get_or (splice by line old new) i [] ≡ mixed_frame by.tables w before after = frame_of_splice by line old new i lt in
    let within : c < length after = subst (λ (n : ℕ). c < n) (ap (λ (f : Frame). length f) same ∙ length-mixed_frame by.tables w before after) channel in
    let value : value_in (splice by line old new) i c ≡ mixed by.tables w (get_or before c (pos 0)) (get_or after c (pos 0)) =
    ap (λ (f : Frame). get_or f c (pos 0)) same ∙ value_of_mixed by.tables w before after c within in
    rw value (mixed_lies_between by.tables frames i (get_or before c (pos 0)) (get_or after c (pos 0)) is)

-- ---- cursors

pub spliced_at : (by : Splicing) (line : List (LineItem Frame)) (old : CursorState) (new : ℕ) → new ≤ length line → IsCursor line (record { place = new; patch = splice by line old new })
spliced_at by line old new le = record { place = le; patch = omega (arith, length-splice by line old new) }

lap_stays : (by : Splicing) (line : List (LineItem Frame)) (s : CursorState) (frames : ℕ) → IsCursor line s → IsCursor line (lap by line frames s).1
unfolding lap
lap_stays by line s frames is =
    let place : ℕ = place_after frames line in
    elim (nat_lt (frame_count line) frames) as (λ b. IsCursor line (cond {A = Sought × CursorState} b (answers.Invalid (frame_count line), s) (answers.At frames, record { place = place; patch = splice by line s place })).1) [
      | true ↦ is
      | false ↦ spliced_at by line s place (place_after-within frames line)
    ]

pub spliced_stay_cursors : SplicedStayCursors
spliced_stay_cursors = λ by line s is. (λ frames. lap_stays by line s frames is, λ old. spliced_at by line old s.place is.place)

-- what a seek or a lap answers, and the cursor then
sought_by : Bool → ℕ → ℕ → CursorState → ℕ → List Frame → Sought × CursorState
sought_by past frames total s place patch = cond {A = Sought × CursorState} past (answers.Invalid total, s) (answers.At frames, record { place = place; patch = patch })

same_place : (past : Bool) (frames total : ℕ) (s : CursorState) (place : ℕ) (some other : List Frame)
    → ((sought_by past frames total s place some).0 ≡ (sought_by past frames total s place other).0)
    × ((sought_by past frames total s place some).1.place ≡ (sought_by past frames total s place other).1.place)
unfolding sought_by
same_place true frames total s place some other = (refl, refl)
same_place false frames total s place some other = (refl, refl)

pub laps_go_where_seeks_go : LapsGoWhereSeeksGo
unfolding lap seek sought_by
laps_go_where_seeks_go = λ by line s frames.
    let place : ℕ = place_after frames line in
    same_place (nat_lt (frame_count line) frames) frames (frame_count line) s place (splice by line s place) []

pub laps_without_splices_are_seeks : LapsWithoutSplicesAreSeeks
unfolding lap seek sought_by
laps_without_splices_are_seeks = λ by line s frames none.
    ap (λ (patch : List Frame). sought_by (nat_lt (frame_count line) frames) frames (frame_count line) s (place_after frames line) patch) none
