-- Halves turned round give the same frames turned round.
use Rattle.std.proofs.Common.{◌≡◌, refl, ℕ, ◌+◌, ◌-◌, ◌*◌, ◌/◌, ◌%◌, ◌<◌, ◌∙◌, sym, ap, inl, inr, List, length, map, reverse, ℤ, pos, ◌+ℤ◌, arith}
use Rattle.std.specs.List.{range_with_len}
use Rattle.std.proofs.Math.IntN.{+ℤ_comm}
use Rattle.std.proofs.lemmas.Bool.{cases_lt, lt-ltb, le-ltb, cond-true, cond-false}
use Rattle.std.proofs.lemmas.List.{length-reverse, get_or-reverse, get_or_past, reverse-reverse, ext_get_or}
use Rattle.std.proofs.lemmas.List.FromFn.{length-map-range_with_len, get_or-map-range_with_len}
use Rattle.model_synthesis.specs.Overlaps.{value_at, value_behind_zeros, overlap_len, overlap_at, overlapped}
use Rattle.model_synthesis.specs.WindowLaws.{OverlapsTurnRound}
use Rattle.model_synthesis.proofs.BlockSizes.{block_size_quarters}

-- a value of a list that is turned round, and the one that stands there if zeros are put before it
mirrored : (xs : List ℤ) (k place zeros : ℕ) → k + place + 1 ≡ zeros + length xs → value_at (reverse xs) k ≡ value_behind_zeros xs place zeros
mirrored xs k place zeros e = elim (cases_lt k (length xs)) [
  | inl within ↦
      let at : length xs - 1 - k ≡ place - zeros = omega arith in
      get_or-reverse xs k (pos 0) within
      ∙ (ap (value_at xs) at ∙ sym (cond-false _ _ _ (le-ltb place zeros (omega arith))))
  | inr past ↦
      let size : length (reverse xs) ≡ length xs = length-reverse xs in
      get_or_past (reverse xs) k (pos 0) (omega arith)
      ∙ sym (cond-true _ _ _ (lt-ltb place zeros (omega arith)))
]

-- a frame from halves that are turned round
frame_turned : (right left : List ℤ) (a b k : ℕ) → a ≡ 2 * length right → b ≡ 2 * length left → a % 4 ≡ 0 → b % 4 ≡ 0 → k < overlap_len a b → overlap_at b a (reverse left) (reverse right) k ≡ overlap_at a b right left (overlap_len a b - 1 - k)
frame_turned right left a b k a-is b-is a-whole b-whole within =
    let j : ℕ = overlap_len a b - 1 - k in
    let size : length (reverse right) ≡ length right = length-reverse right in
    let first : value_at (reverse left) k ≡ value_behind_zeros left (j + b / 4) (a / 4) = mirrored left k (j + b / 4) (a / 4) (omega arith) in
    let second : value_at right j ≡ value_behind_zeros (reverse right) (k + a / 4) (b / 4) =
    ap (λ xs. value_at xs j) (sym (reverse-reverse right)) ∙ mirrored (reverse right) j (k + a / 4) (b / 4) (omega arith) in
    ap (λ v. v +ℤ value_behind_zeros (reverse right) (k + a / 4) (b / 4)) first
    ∙ (ap (λ v. value_behind_zeros left (j + b / 4) (a / 4) +ℤ v) (sym second)
    ∙ +ℤ_comm (value_behind_zeros left (j + b / 4) (a / 4)) (value_at right j))

frames_turned : (right left : List ℤ) (a b : ℕ) → a ≡ 2 * length right → b ≡ 2 * length left → a % 4 ≡ 0 → b % 4 ≡ 0 → map (overlap_at b a (reverse left) (reverse right)) (range_with_len 0 (overlap_len b a)) ≡ reverse (map (overlap_at a b right left) (range_with_len 0 (overlap_len a b)))
frames_turned right left a b a-is b-is a-whole b-whole =
    let n : ℕ = overlap_len a b in
    let f : ℕ → ℤ = overlap_at a b right left in
    let g : ℕ → ℤ = overlap_at b a (reverse left) (reverse right) in
    let xs : List ℤ = map f (range_with_len 0 n) in
    let ys : List ℤ = map g (range_with_len 0 (overlap_len b a)) in
    let count : length xs ≡ n = length-map-range_with_len f 0 n in
    let count' : length ys ≡ overlap_len b a = length-map-range_with_len g 0 (overlap_len b a) in
    let turned : length (reverse xs) ≡ length xs = length-reverse xs in
    ext_get_or (pos 0) ys (reverse xs) (omega arith)
    (λ k within.
    let place : length xs - 1 - k ≡ n - 1 - k = omega arith in
    get_or-map-range_with_len g 0 (overlap_len b a) k k (pos 0) (omega arith) (omega arith)
    ∙ (frame_turned right left a b k a-is b-is a-whole b-whole (omega arith)
    ∙ sym (
    get_or-reverse xs k (pos 0) (omega arith)
    ∙ (ap (value_at xs) place ∙ get_or-map-range_with_len f 0 n (n - 1 - k) (n - 1 - k) (pos 0) (omega arith) (omega arith))
    )))

pub overlaps_turn_round : OverlapsTurnRound
unfolding overlapped
overlaps_turn_round = λ right left right-size left-size.
    let same : length (reverse right) ≡ length right = length-reverse right in
    let same' : length (reverse left) ≡ length left = length-reverse left in
    rw (same, same')
    (frames_turned right left (2 * length right) (2 * length left) refl refl (block_size_quarters _ right-size) (block_size_quarters _ left-size))
