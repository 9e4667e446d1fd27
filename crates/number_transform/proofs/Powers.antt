-- Powers by squaring.
use Rattle.std.proofs.Common.{◌≡◌, ℕ, suc, ◌+◌, ◌*◌, ◌/◌, ◌%◌, ◌^◌, ◌∙◌, sym, refl, ap, arith}
use Rattle.std.proofs.Math.Nat.{pow-suc, mod-mod}
use Rattle.std.proofs.lemmas.Nat.{pow-add, mul-pow, pow-mod}
use Rattle.number_transform.proofs.Congruences.{mul_same}

square_power : (b k : ℕ) → (b * b) ^ k ≡ b ^ (k + k)
square_power b k = mul-pow b b k ∙ sym (pow-add b k k)

-- the power of a square
pub of_square : (p b k : ℕ) → ((b * b) % p) ^ k % p ≡ b ^ (k + k) % p
of_square p b k = pow-mod (b * b) k p ∙ ap (λ n. n % p) (square_power b k)

pub even_power : (p b e s r : ℕ) → e % 2 ≡ 0 → s ≡ (b * b) % p → r ≡ s ^ (e / 2) % p → r ≡ b ^ e % p
even_power p b e s r even es er =
    let halves : e / 2 + e / 2 ≡ e = omega arith in
    er ∙ (ap (λ n. n ^ (e / 2) % p) es ∙ (of_square p b (e / 2) ∙ ap (λ n. b ^ n % p) halves))

pub odd_power : (p b e s r : ℕ) → e % 2 ≡ 1 → s ≡ (b * b) % p → r ≡ s ^ (e / 2) % p → (r * b) % p ≡ b ^ e % p
odd_power p b e s r odd es er =
    let k : ℕ = e / 2 in
    let same : suc (k + k) ≡ e = omega arith in
    let square : r ≡ b ^ (k + k) % p = er ∙ (ap (λ n. n ^ k % p) es ∙ of_square p b k) in
    mul_same p r b (b ^ (k + k)) b (ap (λ n. n % p) square ∙ mod-mod (b ^ (k + k)) p) refl
    ∙ (ap (λ n. n % p) (sym (pow-suc b (k + k))) ∙ ap (λ n. b ^ n % p) same)
