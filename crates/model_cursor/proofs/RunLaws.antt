-- Runs are longest, and go on behind some of their frames.
use Rattle.std.proofs.Common.{◌≡◌, ℕ, zero, suc, ◌≤◌, ◌<◌, Bool, true, false, nat_eq, cond, List, [], ◌∷◌, ◌++◌, length, map, drop, refl, ap, arith}
use Rattle.std.proofs.lemmas.Bool.{eqb-true, eqb-false}
use Rattle.model_line.specs.Decode.{LineItem, frame, gap}
use Rattle.model_line.specs.Blocks.{Frame}
use Rattle.model_cursor.specs.Runs.{frames_of_link, run}
use Rattle.model_cursor.specs.Laws.{EndsRun, RunsAreLongest}

-- ---- a run ends where its link does

-- items are these frames of a link and what follows, which is no frame of it
abbrev Longest : ℕ → List (LineItem Frame) → List Frame → Type 0
Longest link xs frames =
    (xs ≡ map (frame link) frames ++ drop (length frames) xs)
    × EndsRun link (drop (length frames) xs)

longest_from : (link other : ℕ) (value : Frame) (xs : List (LineItem Frame)) (frames : List Frame) (b : Bool) → nat_eq other link ≡ b → Longest link xs frames → Longest link (frame other value ∷ xs) (cond b (value ∷ frames) [])
longest_from link other value xs frames true e rest =
    let same : other ≡ link = eqb-true other link e in
    (rw same (ap (λ (ys : List (LineItem Frame)). frame link value ∷ ys) rest.0), rest.1)
longest_from link other value xs frames false e rest = (refl, eqb-false other link e)

longest : (link : ℕ) (xs : List (LineItem Frame)) → Longest link xs (frames_of_link link xs)
unfolding frames_of_link
longest link [] = (refl, tt)
longest link (frame other value ∷ xs) = longest_from link other value xs (frames_of_link link xs) (nat_eq other link) refl (longest link xs)
longest link (gap other kind ∷ xs) = (refl, tt)

pub runs_are_longest : RunsAreLongest
runs_are_longest = λ link xs. longest link xs

-- ---- a run behind some of its frames

-- the first frame of a link begins a run of it
run_of_link : {F : Type 0} (link : ℕ) (xs : List (LineItem F)) → 0 < length (frames_of_link link xs) → run xs ≡ frames_of_link link xs
unfolding frames_of_link run
run_of_link link [] h = absurd (omega arith)
run_of_link {F} link (frame other value ∷ xs) h = of_frame link other value xs (nat_eq other link) refl h
  where
    of_frame : (link other : ℕ) (value : F) (xs : List (LineItem F)) (b : Bool) → nat_eq other link ≡ b → 0 < length (cond b (value ∷ frames_of_link link xs) []) → value ∷ frames_of_link other xs ≡ cond b (value ∷ frames_of_link link xs) []
    of_frame link other value xs true e h = let same : other ≡ link = eqb-true other link e in ap (λ (k : ℕ). value ∷ frames_of_link k xs) same
    of_frame link other value xs false e h = absurd (omega arith)
run_of_link link (gap other kind ∷ xs) h = absurd (omega arith)

-- behind so many frames of a link, but not all, the rest of them are the run
drop_of_link : {F : Type 0} (link count : ℕ) (xs : List (LineItem F)) → count < length (frames_of_link link xs) → run (drop count xs) ≡ drop count (frames_of_link link xs)
unfolding frames_of_link
drop_of_link link zero xs h = run_of_link link xs h
drop_of_link link (suc count) [] h = absurd (omega arith)
drop_of_link {F} link (suc count) (frame other value ∷ xs) h =
    elim (nat_eq other link) as (λ b. suc count < length (cond b (value ∷ frames_of_link link xs) []) → run (drop count xs) ≡ drop (suc count) (cond b (value ∷ frames_of_link link xs) [])) [
      | true ↦ λ lt. drop_of_link link count xs (omega arith)
      | false ↦ λ lt. absurd (omega arith)
    ] h
drop_of_link link (suc count) (gap other kind ∷ xs) h = absurd (omega arith)

pub run-drop : {F : Type 0} (count : ℕ) (xs : List (LineItem F)) → count < length (run xs) → run (drop count xs) ≡ drop count (run xs)
unfolding run
run-drop zero xs h = refl
run-drop (suc count) [] h = absurd (omega arith)
run-drop (suc count) (frame link value ∷ xs) h = drop_of_link link count xs (omega arith)
run-drop (suc count) (gap link kind ∷ xs) h = absurd (omega arith)

-- ---- a run lies within its items

link_within : {F : Type 0} (link : ℕ) (xs : List (LineItem F)) → length (frames_of_link link xs) ≤ length xs
unfolding frames_of_link
link_within link [] = omega arith
link_within {F} link (frame other value ∷ xs) =
    elim (nat_eq other link) as (λ b. length (cond b (value ∷ frames_of_link link xs) []) ≤ suc (length xs)) [
      | true ↦ let rest = link_within link xs in omega arith
      | false ↦ omega arith
    ]
link_within link (gap other kind ∷ xs) = omega arith

pub run_within : {F : Type 0} (xs : List (LineItem F)) → length (run xs) ≤ length xs
unfolding run
run_within [] = omega arith
run_within (frame link value ∷ xs) = let rest = link_within link xs in omega arith
run_within (gap link kind ∷ xs) = omega arith
