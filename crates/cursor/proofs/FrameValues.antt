-- The values of frames that have as many channels each.
use Rattle.std.proofs.Common.{◌≡◌, ℕ, zero, suc, ◌+◌, ◌*◌, ◌/◌, ◌≤◌, ◌<◌, List, [], ◌∷◌, ◌++◌, length, take, drop, refl, ap, sym, ◌∙◌, arith, ℤ, length-append, length-drop, append-nil}
use Rattle.std.specs.List.{All}
use Rattle.std.proofs.lemmas.List.{length-take, drop_all}
use Rattle.std.proofs.lemmas.List.Elements.{All-head, All-tail, All-append, All-take, All-drop}
use Rattle.std.proofs.lemmas.List.Concat.{flat_map-append}
use Rattle.std.proofs.Math.Seq.{take-length, take-nil, drop-nil, take-append-add, drop-append-add}
use Rattle.model_line.specs.Blocks.{Frame}
use Rattle.model_cursor.specs.FrameLists.{frames_in, values_of}
use Rattle.cursor.specs.Patches.{patched}
use Rattle.cursor.specs.Portions.{HasChannels}
use Rattle.cursor.proofs.ReadFrames.{length_values, count_of, frames_back}

pub whole_values : (n : ℕ) (fs : List Frame) (values : List ℤ) → 0 < n → All (HasChannels n) fs → values ≡ values_of fs → length values ≡ length values / n * n
whole_values n fs values some each is = rw is (length_values n fs each ∙ ap (λ (k : ℕ). k * n) (sym (count_of n fs some each)))

pub frames_of_values : (n : ℕ) (fs : List Frame) (values : List ℤ) → 0 < n → All (HasChannels n) fs → values ≡ values_of fs → frames_in n values ≡ fs
frames_of_values n fs values some each is = ap (λ (vs : List ℤ). frames_in n vs) is ∙ frames_back n fs some each

-- ---- patches

take_values : (n k : ℕ) (fs : List Frame) → All (HasChannels n) fs → take (k * n) (values_of fs) ≡ values_of (take k fs)
take_values n zero fs each = let none : 0 * n ≡ 0 = omega arith in rw none refl
take_values n (suc k) [] each = take-nil (suc k * n)
take_values n (suc k) (f ∷ fs) each =
    let here : length f ≡ n = All-head (HasChannels n) f fs each in
    let more : suc k * n ≡ length f + k * n = omega arith in
    ap (λ (j : ℕ). take j (f ++ values_of fs)) more ∙ take-append-add f (values_of fs) (k * n) ∙ ap (λ (vs : List ℤ). f ++ vs) (take_values n k fs (All-tail (HasChannels n) f fs each))

drop_values : (n k : ℕ) (fs : List Frame) → All (HasChannels n) fs → drop (k * n) (values_of fs) ≡ values_of (drop k fs)
drop_values n zero fs each = let none : 0 * n ≡ 0 = omega arith in rw none refl
drop_values n (suc k) [] each = drop-nil (suc k * n)
drop_values n (suc k) (f ∷ fs) each =
    let here : length f ≡ n = All-head (HasChannels n) f fs each in
    let more : suc k * n ≡ length f + k * n = omega arith in
    ap (λ (j : ℕ). drop j (f ++ values_of fs)) more ∙ drop-append-add f (values_of fs) (k * n) ∙ drop_values n k fs (All-tail (HasChannels n) f fs each)

pub patched_values : (n : ℕ) (patch fs : List Frame) → All (HasChannels n) patch → All (HasChannels n) fs → patched (values_of patch) (values_of fs) ≡ values_of (patched patch fs)
patched_values n patch fs each_patch each =
    ap (λ (k : ℕ). take k (values_of patch) ++ drop (length (values_of patch)) (values_of fs)) (length_values n fs each)
    ∙ ap (λ (k : ℕ). take (length fs * n) (values_of patch) ++ drop k (values_of fs)) (length_values n patch each_patch)
    ∙ ap (λ (vs : List ℤ). vs ++ drop (length patch * n) (values_of fs)) (take_values n (length fs) patch each_patch)
    ∙ ap (λ (vs : List ℤ). values_of (take (length fs) patch) ++ vs) (drop_values n (length patch) fs each)
    ∙ sym (flat_map-append (λ (f : Frame). f) (take (length fs) patch) (drop (length patch) fs))

pub patched_each : (n : ℕ) (patch fs : List Frame) → All (HasChannels n) patch → All (HasChannels n) fs → All (HasChannels n) (patched patch fs)
patched_each n patch fs each_patch each = All-append (HasChannels n) (take (length fs) patch) (drop (length patch) fs) (All-take (HasChannels n) (length fs) patch each_patch) (All-drop (HasChannels n) (length patch) fs each)

pub length-patched : {A : Type 0} (front back : List A) → length (patched front back) ≡ length back
length-patched front back = omega (arith, length-append (take (length back) front) (drop (length front) back), length-take (length back) front, length-drop (length front) back)

-- the first items of a list whose front is replaced
pub take-patched : {A : Type 0} (count : ℕ) (front back : List A) → length front ≤ length back → take count (front ++ drop (length front) back) ≡ patched front (take count back)
take-patched zero front back fits = sym (drop-nil (length front))
take-patched (suc count) [] back fits = rw (take-nil (length (take (suc count) back))) refl
take-patched (suc count) (x ∷ front) [] fits = absurd (omega arith)
take-patched {A} (suc count) (x ∷ front) (y ∷ back) fits = ap (λ (zs : List A). x ∷ zs) (take-patched count front back (omega arith))

-- values that are written whole over others
pub written_back : (n : ℕ) (old new : List ℤ) → length old ≡ n → length new ≡ n → take n (new ++ drop (length new) old) ≡ new
written_back n old new e f = rw (drop_all (length new) old (omega arith), append-nil new, sym f) (take-length new)
