-- Places of a line with so many frames before them.
use Rattle.std.proofs.Common.{◌≡◌, ℕ, zero, suc, ◌+◌, ◌≤◌, List, [], ◌∷◌, length, refl, arith}
use Rattle.model_line.specs.Decode.{LineItem, frame, gap, frame_count}
use Rattle.model_cursor.specs.Cursors.{frames_before, place_after}
use Rattle.model_cursor.specs.Laws.{SeeksGoToTheLeastPlace}

pub frames_before-place_after : {F : Type 0} (frames : ℕ) (xs : List (LineItem F)) → frames ≤ frame_count xs → frames_before xs (place_after frames xs) ≡ frames
unfolding frame_count place_after
frames_before-place_after zero xs h = refl
frames_before-place_after (suc frames) [] h = absurd (omega arith)
frames_before-place_after {F} (suc frames) (frame link value ∷ xs) h =
    let e : 1 + place_after frames xs ≡ suc (place_after frames xs) = omega arith in
    rw e (let rest = frames_before-place_after frames xs (omega arith) in omega arith)
frames_before-place_after (suc frames) (gap link kind ∷ xs) h =
    let e : 1 + place_after (suc frames) xs ≡ suc (place_after (suc frames) xs) = omega arith in
    rw e (frames_before-place_after (suc frames) xs h)

pub place_after-least : {F : Type 0} (frames : ℕ) (xs : List (LineItem F)) (place : ℕ) → frames ≤ frames_before xs place → place_after frames xs ≤ place
unfolding frame_count place_after
place_after-least zero xs place h = omega arith
place_after-least (suc frames) [] place h = omega arith
place_after-least (suc frames) (frame link value ∷ xs) zero h = absurd (omega arith)
place_after-least (suc frames) (frame link value ∷ xs) (suc place) h =
    let rest : place_after frames xs ≤ place = place_after-least frames xs place (omega arith) in omega arith
place_after-least (suc frames) (gap link kind ∷ xs) zero h = absurd (omega arith)
place_after-least (suc frames) (gap link kind ∷ xs) (suc place) h =
    let rest : place_after (suc frames) xs ≤ place = place_after-least (suc frames) xs place h in omega arith

-- it is a place of the line
pub place_after-within : {F : Type 0} (frames : ℕ) (xs : List (LineItem F)) → place_after frames xs ≤ length xs
unfolding place_after
place_after-within zero xs = omega arith
place_after-within (suc frames) [] = omega arith
place_after-within (suc frames) (frame link value ∷ xs) = let rest = place_after-within frames xs in omega arith
place_after-within (suc frames) (gap link kind ∷ xs) = let rest = place_after-within (suc frames) xs in omega arith

pub seeks_go_to_the_least_place : SeeksGoToTheLeastPlace
seeks_go_to_the_least_place = λ line frames h. (frames_before-place_after frames line h, λ place le. place_after-least frames line place le)
