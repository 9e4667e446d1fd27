-- A factor is divided by the number of its coefficients, which makes up for the inverse.
use Rattle.std.proofs.Common.{◌≡◌, ℕ, zero, suc, ◌+◌, ◌-◌, ◌*◌, ◌%◌, ◌^◌, ◌<◌, ◌∙◌, sym, refl, ap, inl, inr, arith}
use Rattle.std.proofs.Math.Nat.{mod-mod, one-mul, pow-suc}
use Rattle.std.proofs.lemmas.Nat.{mul-pow, pow-mod}
use Rattle.std.proofs.lemmas.Bool.{cases_lt}
use Rattle.number_transform.specs.declared.field.TheConstants.{PRIME}
use Rattle.number_transform.proofs.Congruences.{mul_same}
use Rattle.number_transform.specs.Products.{shifted, product}
use Rattle.number_transform.proofs.Totals.{total_same}
use Rattle.number_transform.proofs.Values.{total_times}
use Rattle.number_transform.proofs.Folding.{shifted_before, shifted_after}
use Rattle.number_transform.specs.declared.multiplier.TheConstants.{HALF}

-- a product whose second factor is multiplied
pub product_times : (c n z : ℕ) (a b : ℕ → ℕ) (k : ℕ) → k < n → product c n a (λ i. z * b i) k ≡ z * product c n a b k
product_times c n z a b k short =
    total_same n _ (λ i. z * (a i * shifted c n b i k)) (λ i below. elim (cases_lt k i) [
      | inl after ↦
          let j : ℕ = n + k - i in
          let place : i + j ≡ n + k = omega arith in
          ap (λ t. a i * t) (shifted_after c n (λ i. z * b i) i k j after place)
          ∙ (out (a i) c z (b j) ∙ ap (λ t. z * (a i * t)) (sym (shifted_after c n b i k j after place)))
      | inr before ↦
          let j : ℕ = k - i in
          let place : i + j ≡ k = omega arith in
          ap (λ t. a i * t) (shifted_before c n (λ i. z * b i) i k j place)
          ∙ (past (a i) z (b j) ∙ ap (λ t. z * (a i * t)) (sym (shifted_before c n b i k j place)))
    ])
    ∙ total_times n z (λ i. a i * shifted c n b i k)
  where
    out : (x c z y : ℕ) → x * (c * (z * y)) ≡ z * (x * (c * y))
    out x c z y = omega arith

    past : (x z y : ℕ) → x * (z * y) ≡ z * (x * y)
    past x z y = omega arith

one_to_power : (k : ℕ) → 1 ^ k ≡ 1
one_to_power zero = refl
one_to_power (suc k) = let before : 1 ^ k ≡ 1 = one_to_power k in pow-suc 1 k ∙ omega arith

-- a power of 2 times that of the half
one_again : (levels : ℕ) → (2 ^ levels * HALF ^ levels) % PRIME ≡ 1 % PRIME
one_again levels =
    ap (λ x. x % PRIME) (sym (mul-pow 2 HALF levels))
    ∙ (sym (pow-mod (2 * HALF) levels PRIME) ∙ ap (λ x. x % PRIME) (one_to_power levels))

pub unscaled : (levels c n : ℕ) (a b : ℕ → ℕ) (k : ℕ) → k < n → (2 ^ levels * product c n a (λ i. HALF ^ levels * b i) k) % PRIME ≡ product c n a b k % PRIME
unscaled levels c n a b k short =
    let x : ℕ = product c n a b k in
    ap (λ y. (2 ^ levels * y) % PRIME) (product_times c n (HALF ^ levels) a b k short)
    ∙ (ap (λ y. y % PRIME) (regroup (2 ^ levels) (HALF ^ levels) x)
    ∙ (mul_same PRIME (2 ^ levels * HALF ^ levels) x 1 x (one_again levels) refl ∙ ap (λ y. y % PRIME) (one-mul x)))
  where
    regroup : (p q x : ℕ) → p * (q * x) ≡ p * q * x
    regroup p q x = omega arith

-- a coefficient that was multiplied by the power of the half
pub scaled_residue : (levels x y z : ℕ) → z ≡ HALF ^ levels % PRIME → y ≡ (x * z) % PRIME → y % PRIME ≡ (HALF ^ levels * x) % PRIME
scaled_residue levels x y z ez ey =
    ap (λ n. n % PRIME) ey
    ∙ (mod-mod (x * z) PRIME
    ∙ (mul_same PRIME x z x (HALF ^ levels) refl (ap (λ n. n % PRIME) ez ∙ mod-mod (HALF ^ levels) PRIME)
    ∙ ap (λ n. n % PRIME) (swap x (HALF ^ levels))))
  where
    swap : (p q : ℕ) → p * q ≡ q * p
    swap p q = omega arith
