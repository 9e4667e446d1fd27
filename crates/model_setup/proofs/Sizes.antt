-- The sizes of the intervals, and multiples of a size.
use Rattle.std.proofs.Common.{◌≡◌, ℕ, suc, ◌+◌, ◌-◌, ◌*◌, ◌^◌, ◌<◌, ◌≤◌, refl, ap, sym, ◌∙◌, arith, mul_assoc}
use Rattle.std.proofs.lemmas.Nat.{pow_pos, pow-add}
use Rattle.std.proofs.Math.Nat.{mul-le-mul_right, lt_of_mul-lt-mul_right}
use Rattle.std.proofs.Math.Pow.{pow_mono}
use Rattle.model_setup.specs.Codewords.{size_of}

pub size-pos : (z : ℕ) → 0 < size_of z
unfolding size_of
size-pos z = pow_pos (32 - z)

-- a size is a whole number of smaller ones
pub size-split : (z y : ℕ) → z ≤ y → y ≤ 32 → size_of z ≡ 2 ^ (y - z) * size_of y
unfolding size_of
size-split z y h k =
    let e : 32 - z ≡ (y - z) + (32 - y) = omega arith in
    ap (λ n. 2 ^ n) e ∙ pow-add 2 (y - z) (32 - y)

pub size-half : (z y : ℕ) → z < y → y ≤ 32 → 2 * size_of y ≤ size_of z
size-half z y h k =
    let le : z ≤ y = omega arith in
    let one : 1 ≤ y - z = omega arith in
    let two : 2 ^ 1 ≤ 2 ^ (y - z) = pow_mono one in
    let m : 2 ^ 1 * size_of y ≤ 2 ^ (y - z) * size_of y = mul-le-mul_right (size_of y) two in
    rw (size-split z y le k) m

pub size-le : (z y : ℕ) → z ≤ y → y ≤ 32 → size_of y ≤ size_of z
size-le z y h k =
    let one : 1 ≤ 2 ^ (y - z) = pow_pos (y - z) in
    let m : 1 * size_of y ≤ 2 ^ (y - z) * size_of y = mul-le-mul_right (size_of y) one in
    let e : size_of z ≡ 2 ^ (y - z) * size_of y = size-split z y h k in
    omega arith

pub size-all : (len : ℕ) → len ≤ 32 → 2 ^ len * size_of len ≡ 2 ^ 32
unfolding size_of
size-all len h =
    let e : len + (32 - len) ≡ 32 = omega arith in
    sym (pow-add 2 len (32 - len)) ∙ ap (λ n. 2 ^ n) e

-- of two multiples of a number, the one up to x is at most the one that x isn't behind
pub multiple-le : (q k n x : ℕ) → q * n ≤ x → x < k * n + n → q * n ≤ k * n
multiple-le q k n x h l =
    let lt : q * n < suc k * n = omega arith in
    let less : q < suc k = lt_of_mul-lt-mul_right n lt in
    mul-le-mul_right n (omega arith)

pub multiple-lt : (i q n : ℕ) → i < q → i * n + n ≤ q * n
multiple-lt i q n h =
    let le : suc i * n ≤ q * n = mul-le-mul_right n (omega arith) in
    omega arith

-- a multiple of a size is one of a smaller size
pub finer : (z y k : ℕ) → z ≤ y → y ≤ 32 → k * size_of z ≡ (k * 2 ^ (y - z)) * size_of y
finer z y k h l = ap (λ n. k * n) (size-split z y h l) ∙ sym (mul_assoc k (2 ^ (y - z)) (size_of y))

pub size-next : (z : ℕ) → z < 32 → size_of z ≡ 2 * size_of (z + 1)
size-next z h =
    let e : z + 1 - z ≡ 1 = omega arith in
    let s : size_of z ≡ 2 ^ (z + 1 - z) * size_of (z + 1) = size-split z (z + 1) (omega arith) (omega arith) in
    s ∙ ap (λ n. 2 ^ n * size_of (z + 1)) e

pub size-zero : size_of 0 ≡ 2 ^ 32
unfolding size_of
size-zero = refl

pub size-most : (z : ℕ) → size_of z ≤ 2 ^ 32
unfolding size_of
size-most z = let h : 32 - z ≤ 32 = omega arith in pow_mono h
