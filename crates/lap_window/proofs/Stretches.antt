-- A stretch of the frames between two halves.
use Rattle.std.proofs.Common.{◌≡◌, ℕ, ◌+◌, ◌-◌, ◌*◌, ◌<◌, ◌≤◌, ◌∙◌, sym, List, length, map, ℤ, pos, arith}
use Rattle.std.specs.Prelude.{slice_range}
use Rattle.std.specs.List.{range_with_len}
use Rattle.std.proofs.lemmas.List.{ext_get_or}
use Rattle.std.proofs.lemmas.List.Edits.{length-between, get_or-between}
use Rattle.std.proofs.lemmas.List.FromFn.{length-map-range_with_len, get_or-map-range_with_len}
use Rattle.model_synthesis.specs.Overlaps.{value_at, overlap_len, overlap_at, overlapped}

-- a stretch of a list that is made from a function of the place
stretch : (f : ℕ → ℤ) (n from to : ℕ) (out : List ℤ) → from ≤ to → to ≤ n → length out ≡ to - from → ((k : ℕ) → k < length out → value_at out k ≡ f (from + k)) → out ≡ slice_range (map f (range_with_len 0 n)) from to
stretch f n from to out order within size each =
    let all : List ℤ = map f (range_with_len 0 n) in
    let count : length all ≡ n = length-map-range_with_len f 0 n in
    let count' : length (slice_range all from to) ≡ to - from = length-between all from to (omega arith) in
    ext_get_or (pos 0) out (slice_range all from to) (omega arith)
    (λ k h.
    each k h
    ∙ sym (
    get_or-between all from to k (pos 0) (omega arith)
    ∙ get_or-map-range_with_len f 0 n (from + k) (from + k) (pos 0) (omega arith) (omega arith)
    ))

pub frames_between : (right left : List ℤ) (from to : ℕ) (out : List ℤ) → from ≤ to → to ≤ overlap_len (2 * length right) (2 * length left) → length out ≡ to - from → ((k : ℕ) → k < length out → value_at out k ≡ overlap_at (2 * length right) (2 * length left) right left (from + k)) → out ≡ slice_range (overlapped right left) from to
unfolding overlapped
frames_between right left from to out order within size each =
    stretch (overlap_at (2 * length right) (2 * length left) right left) (overlap_len (2 * length right) (2 * length left)) from to out order within size each
