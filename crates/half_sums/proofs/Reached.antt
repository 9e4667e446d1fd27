-- Each number that is 1 modulo 4 is a power of a number that is 5 modulo 8, modulo a power of two.
use Rattle.std.proofs.Common.{◌≡◌, ◌⊎◌, ℕ, zero, suc, ◌+◌, ◌*◌, ◌/◌, ◌%◌, ◌^◌, ◌<◌, ◌∙◌, sym, ap, subst, inl, inr, arith}
use Rattle.std.proofs.Math.Nat.{pow-zero, div-add-mod'}
use Rattle.std.proofs.lemmas.Nat.{pow-add}
use Rattle.std.proofs.lemmas.Bool.{cases_eq}
use Rattle.number_transform.proofs.Congruences.{same_mod}
use Rattle.half_sums.proofs.Powers.{odd_power, high_power, moved, twice}

-- with one residue modulo m, two numbers have one modulo 2 m, or are m apart there
two_ways : (x t m : ℕ) → x % m ≡ t % m → (x % (2 * m) ≡ t % (2 * m)) ⊎ ((x + m) % (2 * m) ≡ t % (2 * m))
two_ways x t m e =
    let ex : x / m * m + x % m ≡ x = div-add-mod' x m in
    let et : t / m * m + t % m ≡ t = div-add-mod' t m in
    elim (cases_eq (x / m % 2) (t / m % 2)) [
      | inl same ↦ inl (same_mod (2 * m) x t (t / m / 2) (x / m / 2) (level x t m (x / m) (t / m) (x % m) (t % m) (x / m / 2) (t / m / 2) (x / m % 2) (t / m % 2) e ex et (omega arith) (omega arith) same))
      | inr other ↦ inr (same_mod (2 * m) (x + m) t (t / m / 2) (x / m / 2 + x / m % 2) (apart x t m (x / m) (t / m) (x % m) (t % m) (x / m / 2) (t / m / 2) (x / m % 2) (t / m % 2) e ex et (omega arith) (omega arith) (omega arith)))
    ]
  where
    level : (x t m a b r s c d i j : ℕ) → r ≡ s → a * m + r ≡ x → b * m + s ≡ t → a ≡ 2 * c + i → b ≡ 2 * d + j → i ≡ j → x + d * (2 * m) ≡ t + c * (2 * m)
    level x t m a b r s c d i j er ex et ea eb eij =
        let first : a * m ≡ (2 * c + i) * m = ap (λ n. n * m) ea in
        let second : b * m ≡ (2 * d + j) * m = ap (λ n. n * m) eb in
        let third : i * m ≡ j * m = ap (λ n. n * m) eij in
        omega arith

    apart : (x t m a b r s c d i j : ℕ) → r ≡ s → a * m + r ≡ x → b * m + s ≡ t → a ≡ 2 * c + i → b ≡ 2 * d + j → i + j ≡ 1 → x + m + d * (2 * m) ≡ t + (c + i) * (2 * m)
    apart x t m a b r s c d i j er ex et ea eb eij =
        let first : a * m ≡ (2 * c + i) * m = ap (λ n. n * m) ea in
        let second : b * m ≡ (2 * d + j) * m = ap (λ n. n * m) eb in
        let third : (i + j) * m ≡ 1 * m = ap (λ n. n * m) eij in
        omega arith

pub reached : (g o s t : ℕ) → g ≡ 1 + 4 * (2 * o + 1) → t % 4 ≡ 1 → (a : ℕ) × (a < 2 ^ s) × ((g ^ a) % (4 * 2 ^ s) ≡ t % (4 * 2 ^ s))
reached g o zero t e h = (0, omega arith, ap (λ x. x % 4) (pow-zero g) ∙ sym h)
reached g o (suc s) t e h =
    let m : ℕ = 2 ^ s in
    let near = reached g o s t e h in
    let a : ℕ = near.0 in
    let two : 2 ^ suc s ≡ m + m = twice s in
    let turn : 2 * (4 * m) ≡ 4 * 2 ^ suc s = omega arith in
    elim (two_ways (g ^ a) t (4 * m) near.2) [
      | inl here ↦ (a, omega arith, subst (λ p. (g ^ a) % p ≡ t % p) turn here)
      | inr there ↦
          let high = high_power g o s e in
          let k : ℕ = g ^ a / 2 in
          let odd : (g ^ a) % 2 ≡ 1 = odd_power g a (omega arith) in
          let place : g ^ m * g ^ a ≡ g ^ a + 4 * m + (high.0 + k + 2 * high.0 * k) * (8 * m) = moved (g ^ a) m high.0 a (g ^ m) k high.1 (omega arith) in
          let far : (g ^ (m + a)) % (2 * (4 * m)) ≡ (g ^ a + 4 * m) % (2 * (4 * m)) =
          ap (λ x. x % (2 * (4 * m))) (pow-add g m a) ∙ same_mod (2 * (4 * m)) (g ^ m * g ^ a) (g ^ a + 4 * m) 0 (high.0 + k + 2 * high.0 * k) (omega arith) in
          (m + a, omega arith, subst (λ p. (g ^ (m + a)) % p ≡ t % p) turn (far ∙ there))
    ]
