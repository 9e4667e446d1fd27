-- Seeks and tells read no frame of a line.
use Rattle.std.proofs.Common.{◌≡◌, ℕ, zero, suc, ◌+◌, nat_lt, cond, List, [], ◌∷◌, map, take, refl, ap, ◌∙◌}
use Rattle.model_line.specs.Decode.{LineItem, frame, gap, frame_count}
use Rattle.model_line.specs.Origins.{Origin, frame_by}
use Rattle.model_cursor.specs.declared.reply.Sought.{Sought}
use Rattle.model_cursor.specs.declared.reply.Sought.TheVariants as answers
use Rattle.model_line.specs.Blocks.{Frame}
use Rattle.model_cursor.specs.Cursors.{CursorState, place_after, seek}
use Rattle.model_cursor.specs.Laws.{SeeksByOrigins}

frame_count-shape : (value : Origin → Frame) (xs : List (LineItem Origin)) → frame_count (map (frame_by value) xs) ≡ frame_count xs
unfolding frame_count
frame_count-shape value [] = refl
frame_count-shape value (frame link origin ∷ xs) = ap (λ n. 1 + n) (frame_count-shape value xs)
frame_count-shape value (gap link kind ∷ xs) = frame_count-shape value xs

told_shape : (value : Origin → Frame) (place : ℕ) (xs : List (LineItem Origin)) → frame_count (take place (map (frame_by value) xs)) ≡ frame_count (take place xs)
unfolding frame_count
told_shape value zero xs = refl
told_shape value (suc place) [] = refl
told_shape value (suc place) (frame link origin ∷ xs) = ap (λ n. 1 + n) (told_shape value place xs)
told_shape value (suc place) (gap link kind ∷ xs) = told_shape value place xs

place_after-shape : (value : Origin → Frame) (frames : ℕ) (xs : List (LineItem Origin)) → place_after frames (map (frame_by value) xs) ≡ place_after frames xs
unfolding place_after
place_after-shape value zero xs = refl
place_after-shape value (suc frames) [] = refl
place_after-shape value (suc frames) (frame link origin ∷ xs) = ap (λ n. 1 + n) (place_after-shape value frames xs)
place_after-shape value (suc frames) (gap link kind ∷ xs) = ap (λ n. 1 + n) (place_after-shape value (suc frames) xs)

sought_by : ℕ → ℕ → ℕ → CursorState → Sought × CursorState
sought_by frames total place s = cond {A = Sought × CursorState} (nat_lt total frames) (answers.Invalid total, s) (answers.At frames, record { place = place; patch = [] })

seek_shape : (value : Origin → Frame) (frames : ℕ) (xs : List (LineItem Origin)) (s : CursorState) → seek (map (frame_by value) xs) frames s ≡ seek xs frames s
unfolding seek sought_by
seek_shape value frames xs s =
    ap (λ n. sought_by frames n (place_after frames (map (frame_by value) xs)) s) (frame_count-shape value xs)
    ∙ ap (λ n. sought_by frames (frame_count xs) n s) (place_after-shape value frames xs)

pub seeks_by_origins : SeeksByOrigins
seeks_by_origins = λ value line s. (told_shape value s.place line, λ frames. seek_shape value frames line s)
