-- Sums of signed numbers.
use Rattle.std.proofs.Common.{◌≡◌, ℕ, zero, suc, ◌+◌, ◌*◌, ◌<◌, ◌∙◌, sym, refl, ap, arith, ℤ, pos, ◌+ℤ◌}
use Rattle.std.proofs.Math.IntN.{+ℤ_assoc, +ℤ_comm, +ℤ_idr}
use Rattle.model_synthesis.specs.Transform.{sum_below}

pub sum_same : (n : ℕ) (f g : ℕ → ℤ) → ((i : ℕ) → i < n → f i ≡ g i) → sum_below n f ≡ sum_below n g
sum_same zero f g h = refl
sum_same (suc n) f g h = ap (λ x. x +ℤ f n) (sum_same n f g (λ i below. h i (omega arith))) ∙ ap (λ x. sum_below n g +ℤ x) (h n (omega arith))

pub swap_middle : (a b c d : ℤ) → (a +ℤ b) +ℤ (c +ℤ d) ≡ (a +ℤ c) +ℤ (b +ℤ d)
swap_middle a b c d = +ℤ_assoc a b (c +ℤ d) ∙ (ap (λ x. a +ℤ x) (sym (+ℤ_assoc b c d) ∙ (ap (λ x. x +ℤ d) (+ℤ_comm b c) ∙ +ℤ_assoc c b d)) ∙ sym (+ℤ_assoc a c (b +ℤ d)))

pub sum_add : (n : ℕ) (f g : ℕ → ℤ) → sum_below n (λ i. f i +ℤ g i) ≡ sum_below n f +ℤ sum_below n g
sum_add zero f g = refl
sum_add (suc n) f g = ap (λ x. x +ℤ (f n +ℤ g n)) (sum_add n f g) ∙ swap_middle (sum_below n f) (sum_below n g) (f n) (g n)

pub sum_split : (m n : ℕ) (f : ℕ → ℤ) → sum_below (m + n) f ≡ sum_below m f +ℤ sum_below n (λ i. f (m + i))
sum_split m zero f =
    let none : m + 0 ≡ m = omega arith in
    ap (λ k. sum_below k f) none ∙ sym (+ℤ_idr (sum_below m f))
sum_split m (suc n) f =
    let more : m + suc n ≡ suc (m + n) = omega arith in
    ap (λ k. sum_below k f) more ∙ (ap (λ x. x +ℤ f (m + n)) (sum_split m n f) ∙ +ℤ_assoc (sum_below m f) (sum_below n (λ i. f (m + i))) (f (m + n)))

sum_front : (n : ℕ) (f : ℕ → ℤ) → sum_below (suc n) f ≡ f 0 +ℤ sum_below n (λ i. f (suc i))
sum_front zero f = +ℤ_comm (pos 0) (f 0)
sum_front (suc n) f = ap (λ x. x +ℤ f (suc n)) (sum_front n f) ∙ +ℤ_assoc (f 0) (sum_below n (λ i. f (suc i))) (f (suc n))

pub sum_reverse : (n : ℕ) (f g : ℕ → ℤ) → ((i j : ℕ) → i + j + 1 ≡ n → f i ≡ g j) → sum_below n f ≡ sum_below n g
sum_reverse zero f g h = refl
sum_reverse (suc n) f g h =
    +ℤ_comm (sum_below n f) (f n)
    ∙ (ap (λ x. x +ℤ sum_below n f) (h n 0 (omega arith))
    ∙ (ap (λ x. g 0 +ℤ x) (sum_reverse n f (λ j. g (suc j)) (λ i j e. h i (suc j) (omega arith)))
    ∙ sym (sum_front n g)))

pub sum_pairs : (m : ℕ) (f : ℕ → ℤ) → sum_below (m + m) f ≡ sum_below m (λ j. f (2 * j) +ℤ f (2 * j + 1))
sum_pairs zero f = refl
sum_pairs (suc m) f =
    let more : suc m + suc m ≡ suc (suc (m + m)) = omega arith in
    let even : m + m ≡ 2 * m = omega arith in
    let odd : suc (m + m) ≡ 2 * m + 1 = omega arith in
    ap (λ k. sum_below k f) more
    ∙ (+ℤ_assoc (sum_below (m + m) f) (f (m + m)) (f (suc (m + m)))
    ∙ (ap (λ x. x +ℤ (f (m + m) +ℤ f (suc (m + m)))) (sum_pairs m f)
    ∙ (ap (λ k. sum_below m (λ j. f (2 * j) +ℤ f (2 * j + 1)) +ℤ (f k +ℤ f (suc (m + m)))) even
    ∙ ap (λ k. sum_below m (λ j. f (2 * j) +ℤ f (2 * j + 1)) +ℤ (f (2 * m) +ℤ f k)) odd)))
