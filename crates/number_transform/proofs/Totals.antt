-- Sums over the numbers below n.
use Rattle.std.proofs.Common.{◌≡◌, ℕ, zero, suc, ◌+◌, ◌*◌, ◌%◌, ◌<◌, refl, arith}
use Rattle.number_transform.proofs.Congruences.{add_same}
use Rattle.number_transform.specs.Products.{total}

pub total_same : (n : ℕ) (f g : ℕ → ℕ) → ((i : ℕ) → i < n → f i ≡ g i) → total n f ≡ total n g
total_same zero f g h = refl
total_same (suc n) f g h =
    let front : total n f ≡ total n g = total_same n f g (λ i below. h i (omega arith)) in
    let last : f n ≡ g n = h n (omega arith) in
    omega arith

pub total_add : (n w : ℕ) (f g : ℕ → ℕ) → total n (λ i. f i + w * g i) ≡ total n f + w * total n g
total_add zero w f g = omega arith
total_add (suc n) w f g =
    let front : total n (λ i. f i + w * g i) ≡ total n f + w * total n g = total_add n w f g in
    omega arith

pub total_split : (m n : ℕ) (f : ℕ → ℕ) → total (m + n) f ≡ total m f + total n (λ i. f (m + i))
total_split m zero f =
    let none : m + 0 ≡ m = omega arith in
    rw none (omega arith)
total_split m (suc n) f =
    let front : total (m + n) f ≡ total m f + total n (λ i. f (m + i)) = total_split m n f in
    let more : m + suc n ≡ suc (m + n) = omega arith in
    rw more (omega arith)

pub total_mod : (p n : ℕ) (f g : ℕ → ℕ) → ((i : ℕ) → i < n → f i % p ≡ g i % p) → total n f % p ≡ total n g % p
total_mod p zero f g h = refl
total_mod p (suc n) f g h = add_same p (total n f) (f n) (total n g) (g n) (total_mod p n f g (λ i below. h i (omega arith))) (h n (omega arith))
