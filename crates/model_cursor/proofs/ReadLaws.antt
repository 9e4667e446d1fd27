-- Reads go on where the ones before them ended, and leave a cursor of the line.
use Rattle.std.proofs.Common.{◌≡◌, ℕ, zero, suc, ◌+◌, ◌≤◌, ◌<◌, true, false, nat_lt, cond, List, [], ◌∷◌, ◌++◌, length, take, drop, refl, ap, sym, ◌∙◌, arith, length-append, length-drop, inl, inr, ◌⊎◌}
use Rattle.std.proofs.lemmas.List.{length-take, drop-drop}
use Rattle.model_line.specs.Decode.{LineItem, frame, gap, frame_count}
use Rattle.model_cursor.specs.declared.reply.Sought.{Sought}
use Rattle.model_cursor.specs.declared.reply.Sought.TheVariants as answers
use Rattle.model_line.specs.Blocks.{Frame}
use Rattle.model_cursor.specs.Runs.{run, run_at}
use Rattle.model_cursor.specs.Cursors.{CursorState, IsCursor, next_frames, passed, read_of, read, placed, seek}
use Rattle.model_cursor.specs.Laws.{ReadsGoOn, RunsGoOnBehindPatches, StatesStayCursors}
use Rattle.model_cursor.proofs.Places.{place_after-within}
use Rattle.model_cursor.proofs.RunLaws.{run-drop, run_within}

-- ---- lists

-- a list in place of the front of another goes on as both do
drop-patched : {A : Type 0} (i : ℕ) (front back : List A) → length front ≤ length back → drop i (front ++ drop (length front) back) ≡ drop i front ++ drop (length (drop i front)) (drop i back)
drop-patched zero front back h = refl
drop-patched (suc i) [] back h = refl
drop-patched (suc i) (x ∷ front) [] h = absurd (omega arith)
drop-patched (suc i) (x ∷ front) (y ∷ back) h = drop-patched i front back (omega arith)

less_or_same : (m n : ℕ) → m ≤ n → (m < n) ⊎ (m ≡ n)
less_or_same zero zero h = inr refl
less_or_same zero (suc n) h = inl (omega arith)
less_or_same (suc m) zero h = absurd (omega arith)
less_or_same (suc m) (suc n) h = elim (less_or_same m n (omega arith)) [ inl lt ↦ inl (omega arith) | inr e ↦ inr (ap (λ k. suc k) e) ]

-- ---- reads

-- as many frames are next as the run has
length-next : (line : List (LineItem Frame)) (s : CursorState) → IsCursor line s → length (next_frames line s) ≡ length (run_at line s.place)
unfolding next_frames
length-next line s c =
    let fits : length s.patch ≤ length (run_at line s.place) = c.patch in
    omega (arith, length-append s.patch (drop (length s.patch) (run_at line s.place)), length-drop (length s.patch) (run_at line s.place))

-- the run behind some of its frames
run_behind : (line : List (LineItem Frame)) (place count : ℕ) → count < length (run_at line place) → run_at line (place + count) ≡ drop count (run_at line place)
run_behind line place count h = ap (λ (xs : List (LineItem Frame)). run xs) (sym (drop-drop count place line)) ∙ run-drop count (drop place line) h

next_behind : (line : List (LineItem Frame)) (s : CursorState) (count : ℕ) → IsCursor line s → count < length (next_frames line s) → next_frames line (passed count s) ≡ drop count (next_frames line s)
unfolding next_frames
next_behind line s count c h =
    let all = length-next line s c in
    let behind = run_behind line s.place count (omega arith) in
    ap (λ (fs : List Frame). drop count s.patch ++ drop (length (drop count s.patch)) fs) behind
    ∙ sym (drop-patched count s.patch (run_at line s.place) c.patch)

pub reads_go_on : ReadsGoOn
reads_go_on = λ line s count c h. next_behind line s count c h

behind_front : {A : Type 0} (front back : List A) → drop (length front) (front ++ back) ≡ back
behind_front [] back = refl
behind_front (x ∷ front) back = behind_front front back

pub runs_go_on_behind_patches : RunsGoOnBehindPatches
unfolding next_frames
runs_go_on_behind_patches = λ line s. behind_front s.patch (drop (length s.patch) (run_at line s.place))

-- ---- cursors stay cursors

patch_behind : (line : List (LineItem Frame)) (place count : ℕ) (patch : List Frame) → length patch ≤ length (run_at line place) → count ≤ length (run_at line place) → length (drop count patch) ≤ length (run_at line (place + count))
patch_behind line place count patch fits h = elim (less_or_same count (length (run_at line place)) h) [
  | inl lt ↦ rw (run_behind line place count lt) (omega (arith, length-drop count patch, length-drop count (run_at line place)))
  | inr e ↦ omega (arith, length-drop count patch)
]

-- behind no more frames than the run has
passed_within : (line : List (LineItem Frame)) (s : CursorState) (count : ℕ) → IsCursor line s → count ≤ length (run_at line s.place) → IsCursor line (passed count s)
passed_within line s count c h =
    let on : s.place ≤ length line = c.place in
    let run_fits = run_within (drop s.place line) in
    record {
      place = omega (arith, length-drop s.place line);
      patch = patch_behind line s.place count s.patch c.patch h;
    }

-- behind a gap, where the patch is empty
gap_passed : (line : List (LineItem Frame)) (s : CursorState) (xs : List (LineItem Frame)) → IsCursor line s → 0 < length (drop s.place line) → length (run_at line s.place) ≡ 0 → IsCursor line (passed 1 s)
gap_passed line s xs c some none =
    let fits : length s.patch ≤ length (run_at line s.place) = c.patch in
    record {
      place = omega (arith, length-drop s.place line);
      patch = omega (arith, length-drop 1 s.patch);
    }

read_of_stays : (line xs : List (LineItem Frame)) (given : List Frame) (s : CursorState) → drop s.place line ≡ xs → length given ≤ length (run_at line s.place) → IsCursor line s → IsCursor line (read_of xs given s).1
unfolding run
read_of_stays line [] given s e fits c = c
read_of_stays line (gap link kind ∷ xs) given s e fits c = gap_passed line s xs c (rw e (omega arith)) (ap (λ (ys : List (LineItem Frame)). length (run ys)) e)
read_of_stays line (frame link value ∷ xs) given s e fits c = passed_within line s (length given) c fits

read_stays : (line : List (LineItem Frame)) (s : CursorState) (frames : ℕ) → IsCursor line s → IsCursor line (read line frames s).1
unfolding read
read_stays line s frames c =
    let all = length-next line s c in
    read_of_stays line (drop s.place line) (take frames (next_frames line s)) s refl (omega (arith, length-take frames (next_frames line s))) c

placed_is : (line : List (LineItem Frame)) (frames : ℕ) → IsCursor line (placed line frames)
placed_is line frames = record { place = place_after-within frames line; patch = omega arith }

seek_stays : (line : List (LineItem Frame)) (s : CursorState) (frames : ℕ) → IsCursor line s → IsCursor line (seek line frames s).1
unfolding seek
seek_stays line s frames c =
    elim (nat_lt (frame_count line) frames) as (λ b. IsCursor line (cond {A = Sought × CursorState} b (answers.Invalid (frame_count line), s) (answers.At frames, placed line frames)).1) [
      | true ↦ c
      | false ↦ placed_is line frames
    ]

pub states_stay_cursors : StatesStayCursors
states_stay_cursors = λ line s frames c. (read_stays line s frames c, seek_stays line s frames c)
