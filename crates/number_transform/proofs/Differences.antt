-- Sums and differences with a product that was reduced.
use Rattle.std.proofs.Common.{◌≡◌, ℕ, ◌+◌, ◌-◌, ◌*◌, ◌/◌, ◌%◌, ◌<◌, ◌∙◌, sym, ap, refl, arith}
use Rattle.std.proofs.Math.Nat.{div-add-mod', mod-lt, mod-mod, mul_comm, mul-one}
use Rattle.number_transform.specs.declared.field.TheConstants.{PRIME}
use Rattle.number_transform.proofs.Congruences.{same_mod, add_same, mul_same}

pub sum_with : (a b w t : ℕ) → t ≡ (b * w) % PRIME → (a + t) % PRIME ≡ (a + w * b) % PRIME
sum_with a b w t e = add_same PRIME a t a (w * b) refl (ap (λ x. x % PRIME) e ∙ (mod-mod (b * w) PRIME ∙ ap (λ x. x % PRIME) (mul_comm b w)))

less : (a b w s t u q p : ℕ) → s + w ≡ p → u + t ≡ p → q * p + t ≡ b * w → (a + u) % p ≡ (a + s * b) % p
less a b w s t u q p es eu e =
    let expanded : b * p ≡ b * s + b * w = sym (ap (λ x. b * x) es) ∙ omega arith in
    same_mod p (a + u) (a + s * b) b (q + 1) (omega arith)

pub difference_with : (a b w t : ℕ) → w < PRIME → t ≡ (b * w) % PRIME → (a + (PRIME - t)) % PRIME ≡ (a + (PRIME - w) * b) % PRIME
difference_with a b w t h e =
    let q : ℕ = b * w / PRIME in
    let small : (b * w) % PRIME < PRIME = mod-lt (b * w) (omega arith) in
    let whole : q * PRIME + (b * w) % PRIME ≡ b * w = div-add-mod' (b * w) PRIME in
    less a b w (PRIME - w) t (PRIME - t) q PRIME (omega arith) (omega arith) (ap (λ x. q * PRIME + x) e ∙ whole)

-- the sum and the difference of two foldings, of which each was multiplied by n
both : (n v u w s p : ℕ) → w + s ≡ p → (n * (v + w * u) + n * (v + s * u)) % p ≡ ((n + n) * v) % p
both n v u w s p e =
    let expanded : n * u * p ≡ n * u * w + n * u * s = sym (ap (λ x. n * u * x) e) ∙ omega arith in
    same_mod p (n * (v + w * u) + n * (v + s * u)) ((n + n) * v) 0 (n * u) (omega arith)

apart : (n v u w s p b c q : ℕ) → w + s ≡ p → b + c ≡ p → q * p + b ≡ n * (v + s * u) → (n * (v + w * u) + c) % p ≡ ((n + n) * u * w) % p
apart n v u w s p b c q e f whole =
    let expanded : n * u * p ≡ n * u * w + n * u * s = sym (ap (λ x. n * u * x) e) ∙ omega arith in
    same_mod p (n * (v + w * u) + c) ((n + n) * u * w) (n * u) (q + 1) (omega arith)

pub sum_of_folds : (n v u w a b : ℕ) → w < PRIME → a ≡ (n * (v + w * u)) % PRIME → b ≡ (n * (v + (PRIME - w) * u)) % PRIME → (a + b) % PRIME ≡ ((n + n) * v) % PRIME
sum_of_folds n v u w a b h ea eb =
    add_same PRIME a b (n * (v + w * u)) (n * (v + (PRIME - w) * u)) (residue a _ ea) (residue b _ eb) ∙ both n v u w (PRIME - w) PRIME (omega arith)
  where
    residue : (x y : ℕ) → x ≡ y % PRIME → x % PRIME ≡ y % PRIME
    residue x y e = ap (λ z. z % PRIME) e ∙ mod-mod y PRIME

pub difference_of_folds : (n v u w z a b : ℕ) → w < PRIME → (w * z) % PRIME ≡ 1 → a ≡ (n * (v + w * u)) % PRIME → b ≡ (n * (v + (PRIME - w) * u)) % PRIME
    → ((a + (PRIME - b)) % PRIME * z) % PRIME ≡ ((n + n) * u) % PRIME
difference_of_folds n v u w z a b h one ea eb =
    let s : ℕ = PRIME - w in
    let x : ℕ = n * (v + s * u) in
    let q : ℕ = x / PRIME in
    let small : x % PRIME < PRIME = mod-lt x (omega arith) in
    let whole : q * PRIME + x % PRIME ≡ x = div-add-mod' x PRIME in
    let less : (a + (PRIME - b)) % PRIME ≡ ((n + n) * u * w) % PRIME =
    add_same PRIME a (PRIME - b) (n * (v + w * u)) (PRIME - b) (ap (λ y. y % PRIME) ea ∙ mod-mod (n * (v + w * u)) PRIME) refl
    ∙ apart n v u w s PRIME b (PRIME - b) q (omega arith) (omega arith) (ap (λ y. q * PRIME + y) eb ∙ whole) in
    let turned : (n + n) * u * w * z ≡ (n + n) * u * (w * z) = omega arith in
    mul_same PRIME ((a + (PRIME - b)) % PRIME) z ((n + n) * u * w) z (mod-mod (a + (PRIME - b)) PRIME ∙ less) refl
    ∙ (ap (λ y. y % PRIME) turned
    ∙ (mul_same PRIME ((n + n) * u) (w * z) ((n + n) * u) 1 refl one ∙ ap (λ y. y % PRIME) (mul-one ((n + n) * u))))
