-- What lanes hold after an operation.
use Rattle.std.proofs.Common.{◌≡◌, ℕ, zero, suc, ◌+◌, ◌-◌, ◌*◌, ◌%◌, ◌^◌, ◌<◌, ◌≤◌, ◌∙◌, sym, ap, List, ◌++◌, length, get_or, take, drop, bit_and, length-drop, arith}
use Rattle.std.specs.Prelude.{replicate}
use Rattle.std.proofs.lemmas.Nat.{and_mask}
use Rattle.std.proofs.lemmas.Simd.{get_or-zip2, length-zip2, length-replicate, get_or-replicate, length-chunk, get_or-chunk, put_chunk_whole}
use Rattle.std.proofs.Math.Nat.{mod-eq_of_lt, mul-le-mul}
use Rattle.std.proofs.lemmas.List.{length-take-le, get_or_append_left, get_or-append_right}
use borrow.Rule.Slice.PartMut.{put_mid, post_of}
use lib.Lanes.{zip2, chunk, put_chunk}
use Rattle.half_sums.specs.Shares.{share_sum}

low_lane : (v : List ℕ) (i : ℕ) → length v ≡ 16 → i < 16 → get_or v i 0 < 2 ^ 32 → get_or (zip2 bit_and v (replicate 16 4294967295)) i 0 ≡ get_or v i 0
low_lane v i long h small =
    let all : length {A = ℕ} (replicate 16 4294967295) ≡ 16 = length-replicate {A = ℕ} 16 4294967295 in
    get_or-zip2 bit_and v (replicate 16 4294967295) i 0 0 0 (omega arith) h
    ∙ (ap (bit_and (get_or v i 0)) (get_or-replicate 16 i 4294967295 0 h)
    ∙ (and_mask (get_or v i 0) 32 ∙ mod-eq_of_lt small))

pub magnitude_lane : (m i : ℕ) → m ≤ 2 ^ 27 → i < 16 → get_or (zip2 bit_and (replicate 16 m) (replicate 16 4294967295)) i 0 ≡ m
magnitude_lane m i small h =
    let here : get_or (replicate 16 m) i 0 ≡ m = get_or-replicate 16 i m 0 h in
    low_lane (replicate 16 m) i (length-replicate 16 m) h (omega arith) ∙ here

pub wave_lane : (waves : List ℕ) (i : ℕ) → 16 ≤ length waves → ((k : ℕ) → get_or waves k 0 ≤ 2 ^ 24) → i < 16 → get_or (zip2 bit_and (chunk 0 16 waves) (replicate 16 4294967295)) i 0 ≡ get_or waves i 0
wave_lane waves i room small h =
    let place : 0 + i ≡ i = omega arith in
    let here : get_or (chunk 0 16 waves) i 0 ≡ get_or waves i 0 = get_or-chunk 0 16 waves i 0 h ∙ ap (λ k. get_or waves k 0) place in
    let most : get_or waves i 0 ≤ 2 ^ 24 = small i in
    low_lane (chunk 0 16 waves) i (length-chunk 0 16 waves (omega arith)) h (omega arith) ∙ here

pub length-masked : (v : List ℕ) → length v ≡ 16 → length (zip2 bit_and v (replicate 16 4294967295)) ≡ 16
length-masked v long = length-zip2 bit_and v (replicate 16 4294967295) (long ∙ sym (length-replicate {A = ℕ} 16 4294967295)) ∙ long

pub length-wave_lanes : (waves : List ℕ) → 16 ≤ length waves → length (zip2 bit_and (chunk 0 16 waves) (replicate 16 4294967295)) ≡ 16
length-wave_lanes waves room = length-masked (chunk 0 16 waves) (length-chunk 0 16 waves (omega arith))

abbrev wrapped_sum : ℕ → ℕ → ℕ
wrapped_sum x y = (x + y) % 2 ^ 64

abbrev wrapped_product : ℕ → ℕ → ℕ
wrapped_product x y = (x * y) % 2 ^ 64

module _ (sums left right : List ℕ) (long : length sums ≡ 16) (long_left : length left ≡ 16) (long_right : length right ≡ 16) where
  products : List ℕ
  products = zip2 wrapped_product left right

  long_products : length (zip2 wrapped_product left right) ≡ 16
  long_products = length-zip2 wrapped_product left right (long_left ∙ sym long_right) ∙ long_left

  pub length-added : length (zip2 (λ x y. (x + y) % 2 ^ 64) sums (zip2 (λ x y. (x * y) % 2 ^ 64) left right)) ≡ 16
  length-added = length-zip2 wrapped_sum sums (zip2 wrapped_product left right) (long ∙ sym long_products) ∙ long

  pub added_lane : (i : ℕ) → i < 16 → get_or sums i 0 ≤ 2 ^ 62 → get_or left i 0 ≤ 2 ^ 27 → get_or right i 0 ≤ 2 ^ 24
      → get_or (zip2 (λ x y. (x + y) % 2 ^ 64) sums (zip2 (λ x y. (x * y) % 2 ^ 64) left right)) i 0 ≡ get_or sums i 0 + get_or left i 0 * get_or right i 0
  added_lane i h small small_left small_right =
      let most : get_or left i 0 * get_or right i 0 ≤ 2 ^ 27 * 2 ^ 24 = mul-le-mul small_left small_right in
      let kept : (get_or left i 0 * get_or right i 0) % 2 ^ 64 ≡ get_or left i 0 * get_or right i 0 = mod-eq_of_lt (omega arith) in
      let product : get_or (zip2 wrapped_product left right) i 0 ≡ get_or left i 0 * get_or right i 0 =
      get_or-zip2 wrapped_product left right i 0 0 0 (omega arith) (omega arith) ∙ kept in
      get_or-zip2 wrapped_sum sums (zip2 wrapped_product left right) i 0 0 0 (omega arith) (omega (arith, long_products))
      ∙ (ap (λ p. (get_or sums i 0 + p) % 2 ^ 64) product ∙ mod-eq_of_lt (omega arith))

-- sums of few shares are small
pub share_sum_small : (magnitudes starts waves : List ℕ) (n a : ℕ) → ((b : ℕ) → b < n → get_or magnitudes b 0 ≤ 2 ^ 27) → ((k : ℕ) → get_or waves k 0 ≤ 2 ^ 24) → share_sum magnitudes starts waves n a ≤ n * (2 ^ 27 * 2 ^ 24)
share_sum_small magnitudes starts waves zero a small_magnitude small_wave = omega arith
share_sum_small magnitudes starts waves (suc n) a small_magnitude small_wave =
    let front : share_sum magnitudes starts waves n a ≤ n * (2 ^ 27 * 2 ^ 24) = share_sum_small magnitudes starts waves n a (λ b h. small_magnitude b (omega arith)) small_wave in
    let last : get_or magnitudes n 0 * get_or waves (get_or starts n 0 + a) 0 ≤ 2 ^ 27 * 2 ^ 24 = mul-le-mul (small_magnitude n (omega arith)) (small_wave (get_or starts n 0 + a)) in
    omega arith

pub few_shares : (x n : ℕ) → x ≤ n * (2 ^ 27 * 2 ^ 24) → n ≤ 128 → x ≤ 2 ^ 62
few_shares x n h few = omega arith

-- what stands where lanes were put
pub put_lane : (a k : ℕ) (xs ys : List ℕ) (i : ℕ) → k ≡ 16 → length ys ≡ 16 → a + 16 ≤ length xs → i < 16
    → get_or (put_mid a k xs (put_chunk 0 (take k (drop a xs)) ys)) (a + i) 0 ≡ get_or ys i 0
put_lane a k xs ys i ek long room h =
    let behind : length (drop a xs) ≡ length xs - a = length-drop a xs in
    let part : length (take k (drop a xs)) ≡ k = length-take-le k (drop a xs) (omega arith) in
    let front : length (take a xs) ≡ a = length-take-le a xs (omega arith) in
    let whole : put_chunk 0 (take k (drop a xs)) ys ≡ ys = put_chunk_whole (take k (drop a xs)) ys (omega arith) in
    let place : a + i - a ≡ i = omega arith in
    ap (λ (l : List ℕ). get_or (put_mid a k xs l) (a + i) 0) whole
    ∙ (get_or-append_right (take a xs) (ys ++ post_of a k xs) a (a + i) 0 front (omega arith)
    ∙ (ap (λ n. get_or (ys ++ post_of a k xs) n 0) place ∙ get_or_append_left ys (post_of a k xs) 0 i (omega arith)))
