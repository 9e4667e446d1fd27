-- Powers of a number that is 5 modulo 8, modulo powers of two: they are all the numbers that are 1 modulo 4.
use Rattle.std.proofs.Common.{◌≡◌, ℕ, zero, suc, ◌+◌, ◌*◌, ◌/◌, ◌%◌, ◌^◌, ◌∙◌, sym, ap, arith, ℤ, pos, ◌+ℤ◌}
use Rattle.std.proofs.Math.Nat.{pow-suc, pow-zero}
use Rattle.std.proofs.Math.IntN.{+ℤ_comm}
use Rattle.std.proofs.lemmas.Nat.{pow-add, mul-mod}
use Rattle.model_synthesis.specs.Transform.{sum_below}
use Rattle.half_sums.proofs.IntSums.{sum_same, sum_add, sum_split, sum_reverse, sum_pairs}

pub odd_product : (a b : ℕ) → a % 2 ≡ 1 → b % 2 ≡ 1 → (a * b) % 2 ≡ 1
odd_product a b ea eb = mul-mod a b 2 ∙ (ap (λ x. (x * (b % 2)) % 2) ea ∙ ap (λ x. (1 * x) % 2) eb)

pub odd_power : (g a : ℕ) → g % 2 ≡ 1 → (g ^ a) % 2 ≡ 1
odd_power g zero h = ap (λ x. x % 2) (pow-zero g)
odd_power g (suc a) h = ap (λ x. x % 2) (pow-suc g a) ∙ odd_product (g ^ a) g (odd_power g a h) h

pub twice : (s : ℕ) → 2 ^ suc s ≡ 2 ^ s + 2 ^ s
twice s = omega (arith, pow-suc 2 s)

square : (m q x : ℕ) → x ≡ 1 + 4 * m * (2 * q + 1) → x * x ≡ 1 + 4 * (m + m) * (2 * (q + m * (2 * q + 1) * (2 * q + 1)) + 1)
square m q x e = ap (λ y. y * y) e ∙ omega arith

-- the power 2 ^ s of a number that is 5 modulo 8
pub high_power : (g o s : ℕ) → g ≡ 1 + 4 * (2 * o + 1) → (q : ℕ) × (g ^ (2 ^ s) ≡ 1 + 4 * 2 ^ s * (2 * q + 1))
high_power g o zero e = (o, pow-suc g 0 ∙ (ap (λ x. x * g) (pow-zero g) ∙ omega arith))
high_power g o (suc s) e =
    let half = high_power g o s e in
    let m : ℕ = 2 ^ s in (
      half.0 + m * (2 * half.0 + 1) * (2 * half.0 + 1),
      ap (λ k. g ^ k) (twice s) ∙ (pow-add g m m ∙ (square m half.0 (g ^ m) half.1 ∙ ap (λ k. 1 + 4 * k * (2 * (half.0 + m * (2 * half.0 + 1) * (2 * half.0 + 1)) + 1)) (sym (twice s)))),
    )

-- a function that comes again
pub again : (f : ℕ → ℤ) (p : ℕ) → ((t : ℕ) → f (t + p) ≡ f t) → (q t : ℕ) → f (t + q * p) ≡ f t
again f p h zero t =
    let none : t + 0 * p ≡ t = omega arith in
    ap f none
again f p h (suc q) t =
    let more : t + suc q * p ≡ t + q * p + p = omega arith in
    ap f more ∙ (h (t + q * p) ∙ again f p h q t)

-- half the order further on, a power has moved by half a turn
pub moved : (g m q a x k : ℕ) → x ≡ 1 + 4 * m * (2 * q + 1) → g ≡ 2 * k + 1 → x * g ≡ g + 4 * m + (q + k + 2 * q * k) * (8 * m)
moved g m q a x k ex eg = ap (λ y. y * g) ex ∙ (ap (λ y. (1 + 4 * m * (2 * q + 1)) * y) eg ∙ (omega arith ∙ ap (λ y. y + 4 * m + (q + k + 2 * q * k) * (8 * m)) (sym eg)))

half_way : (g o s a : ℕ) (f : ℕ → ℤ) → g ≡ 1 + 4 * (2 * o + 1) → ((t : ℕ) → f (t + 4 * 2 ^ suc s) ≡ f t) → f (g ^ (2 ^ s + a)) ≡ f (g ^ a + 4 * 2 ^ s)
half_way g o s a f e h =
    let m : ℕ = 2 ^ s in
    let high = high_power g o s e in
    let k : ℕ = g ^ a / 2 in
    let odd : (g ^ a) % 2 ≡ 1 = odd_power g a (omega arith) in
    let split : g ^ (m + a) ≡ g ^ m * g ^ a = pow-add g m a in
    let place : g ^ m * g ^ a ≡ g ^ a + 4 * m + (high.0 + k + 2 * high.0 * k) * (8 * m) = moved (g ^ a) m high.0 a (g ^ m) k high.1 (omega arith) in
    let turn : 8 * m ≡ 4 * 2 ^ suc s = omega (arith, twice s) in
    ap f (split ∙ (place ∙ ap (λ p. g ^ a + 4 * m + (high.0 + k + 2 * high.0 * k) * p) turn))
    ∙ again f (4 * 2 ^ suc s) h (high.0 + k + 2 * high.0 * k) (g ^ a + 4 * m)

pub sum_of_powers : (g o s : ℕ) (f : ℕ → ℤ) → g ≡ 1 + 4 * (2 * o + 1) → ((t : ℕ) → f (t + 4 * 2 ^ s) ≡ f t) → sum_below (2 ^ s) (λ a. f (g ^ a)) ≡ sum_below (2 ^ s) (λ j. f (4 * j + 1))
sum_of_powers g o zero f e h = ap (λ x. pos 0 +ℤ f x) (pow-zero g)
sum_of_powers g o (suc s) f e h =
    let m : ℕ = 2 ^ s in
    let both : ℕ → ℤ = λ t. f t +ℤ f (t + 4 * m) in
    let comes : (t : ℕ) → both (t + 4 * m) ≡ both t = λ t.
    let place : t + 4 * m + 4 * m ≡ t + 4 * 2 ^ suc s = omega (arith, twice s) in
    ap (λ x. f (t + 4 * m) +ℤ x) (ap f place ∙ h t) ∙ +ℤ_comm (f (t + 4 * m)) (f t) in
    ap (λ n. sum_below n (λ a. f (g ^ a))) (twice s)
    ∙ (sum_split m m (λ a. f (g ^ a))
    ∙ (ap (λ x. sum_below m (λ a. f (g ^ a)) +ℤ x) (sum_same m (λ a. f (g ^ (m + a))) (λ a. f (g ^ a + 4 * m)) (λ a below. half_way g o s a f e h))
    ∙ (sym (sum_add m (λ a. f (g ^ a)) (λ a. f (g ^ a + 4 * m)))
    ∙ (sum_of_powers g o s both e comes
    ∙ (sum_add m (λ j. f (4 * j + 1)) (λ j. f (4 * j + 1 + 4 * m))
    ∙ (ap (λ x. sum_below m (λ j. f (4 * j + 1)) +ℤ x) (sum_same m (λ j. f (4 * j + 1 + 4 * m)) (λ j. f (4 * (m + j) + 1)) (λ j below. ap f (let place : 4 * j + 1 + 4 * m ≡ 4 * (m + j) + 1 = omega arith in place)))
    ∙ (sym (sum_split m m (λ j. f (4 * j + 1)))
    ∙ ap (λ n. sum_below n (λ j. f (4 * j + 1))) (sym (twice s)))))))))

-- each odd number once, where a number and its distance from the turn's end count the same
pub sum_of_odds : (m : ℕ) (f : ℕ → ℤ) → ((t u : ℕ) → t % 2 ≡ 1 → t + u ≡ 8 * m → f t ≡ f u) → sum_below (m + m) (λ j. f (4 * j + 1)) ≡ sum_below (m + m) (λ k. f (2 * k + 1))
sum_of_odds m f h =
    sum_split m m (λ j. f (4 * j + 1))
    ∙ (ap (λ x. sum_below m (λ j. f (4 * j + 1)) +ℤ x) (sum_reverse m (λ j. f (4 * (m + j) + 1)) (λ j. f (4 * j + 3)) (λ i j e. h (4 * (m + i) + 1) (4 * j + 3) (omega arith) (omega arith)))
    ∙ (sym (sum_add m (λ j. f (4 * j + 1)) (λ j. f (4 * j + 3)))
    ∙ (sum_same m (λ j. f (4 * j + 1) +ℤ f (4 * j + 3)) (λ j. f (2 * (2 * j) + 1) +ℤ f (2 * (2 * j + 1) + 1)) (λ j below.
    let even : 4 * j + 1 ≡ 2 * (2 * j) + 1 = omega arith in
    let odd : 4 * j + 3 ≡ 2 * (2 * j + 1) + 1 = omega arith in
    ap (λ p. f p +ℤ f (4 * j + 3)) even ∙ ap (λ p. f (2 * (2 * j) + 1) +ℤ f p) odd)
    ∙ sym (sum_pairs m (λ k. f (2 * k + 1))))))
