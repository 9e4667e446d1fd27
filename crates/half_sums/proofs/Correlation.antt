-- The sums at the powers of one number are a product modulo x ^ n + 1.
use Rattle.std.proofs.Common.{◌≡◌, ℕ, zero, suc, ◌+◌, ◌-◌, ◌*◌, ◌/◌, ◌%◌, ◌^◌, ◌<◌, ◌∙◌, sym, refl, ap, inl, inr, arith, ℤ, neg_ℤ, ◌*ℤ◌}
use Rattle.std.proofs.Math.Nat.{pow-zero, pow-suc, mod-mod}
use Rattle.std.proofs.Math.IntN.{neg_ℤ-neg_ℤ}
use Rattle.std.proofs.lemmas.Nat.{pow-add, pow_pos}
use Rattle.std.proofs.lemmas.Bool.{cases_lt}
use Rattle.number_transform.specs.declared.field.TheConstants.{PRIME}
use Rattle.number_transform.specs.Field.{residue_of}
use Rattle.number_transform.specs.Products.{shifted, product}
use Rattle.model_synthesis.specs.Tables.{wave}
use Rattle.model_synthesis.specs.Transform.{sum_below}
use Rattle.number_transform.proofs.Congruences.{mul_same}
use Rattle.number_transform.proofs.Totals.{total_mod, total_same}
use Rattle.number_transform.proofs.Folding.{shifted_before, shifted_after}
use Rattle.model_synthesis.proofs.Waves.{wave_turns, wave_halves}
use Rattle.half_sums.proofs.Powers.{high_power, odd_power, odd_product}
use Rattle.half_sums.proofs.LineSums.{sum_over_powers}
use Rattle.half_sums.proofs.SignedResidues.{residue-neg, residue-mul, residue-sum}

-- powers of two numbers that are inverses modulo a turn
one_power : (g e turn c b : ℕ) → g * e ≡ 1 + c * turn → (q : ℕ) × (g ^ b * e ^ b ≡ 1 + q * turn)
one_power g e turn c zero h = (0, ap (λ x. x * e ^ 0) (pow-zero g) ∙ (ap (λ x. 1 * x) (pow-zero e) ∙ omega arith))
one_power g e turn c (suc b) h =
    let before = one_power g e turn c b h in
    let q : ℕ = before.0 in
    (q + c + q * c * turn, ap (λ x. x * e ^ suc b) (pow-suc g b) ∙ (ap (λ x. g ^ b * g * x) (pow-suc e b) ∙ more (g ^ b) (e ^ b) g e q c turn before.1 h))
  where
    more : (x y g e q c t : ℕ) → x * y ≡ 1 + q * t → g * e ≡ 1 + c * t → x * g * (y * e) ≡ 1 + (q + c + q * c * t) * t
    more x y g e q c t ex eg =
        let regroup : x * g * (y * e) ≡ x * y * (g * e) = omega arith in
        regroup ∙ (ap (λ n. n * (g * e)) ex ∙ (ap (λ n. (1 + q * t) * n) eg ∙ omega arith))

module _ (first : ℕ → ℤ) (s g e c o : ℕ) (inverse : g * e ≡ 1 + c * (4 * (2 * 2 ^ suc s))) (five : e ≡ 1 + 4 * (2 * o + 1)) (odd_g : g % 2 ≡ 1) where
  cosine_at : ℕ → ℤ
  cosine_at t = wave (2 * 2 ^ suc s) first t

  pub cancel : (b j : ℕ) → wave (2 * 2 ^ suc s) first (e ^ (b + j) * g ^ b) ≡ wave (2 * 2 ^ suc s) first (e ^ j)
  cancel b j =
      let turn : ℕ = 4 * (2 * 2 ^ suc s) in
      let one = one_power g e turn c b inverse in
      let place : e ^ (b + j) * g ^ b ≡ e ^ j + e ^ j * one.0 * turn = ap (λ x. x * g ^ b) (pow-add e b j) ∙ regroup (e ^ b) (e ^ j) (g ^ b) one.0 turn one.1 in
      ap (wave (2 * 2 ^ suc s) first) place ∙ wave_turns (2 * 2 ^ suc s) first (e ^ j) (e ^ j * one.0)
    where
      regroup : (x y z q t : ℕ) → z * x ≡ 1 + q * t → x * y * z ≡ y + y * q * t
      regroup x y z q t h =
          let shifted : x * y * z ≡ y * (z * x) = omega arith in
          shifted ∙ (ap (λ n. y * n) h ∙ omega arith)

  pub opposite : (a b j : ℕ) → b + j ≡ 2 ^ suc s + a → wave (2 * 2 ^ suc s) first (e ^ a * g ^ b) ≡ neg_ℤ (wave (2 * 2 ^ suc s) first (e ^ j))
  opposite a b j h =
      let n : ℕ = 2 ^ suc s in
      let high = high_power e o (suc s) five in
      let y : ℕ = e ^ a * g ^ b in
      let k : ℕ = y / 2 in
      let odd : y % 2 ≡ 1 = odd_product (e ^ a) (g ^ b) (odd_power e a (omega arith)) (odd_power g b odd_g) in
      let place : e ^ (b + j) * g ^ b ≡ y + (2 * (high.0 + k + 2 * high.0 * k) + 1) * (2 * (2 * n)) =
      ap (λ p. e ^ p * g ^ b) h ∙ (ap (λ x. x * g ^ b) (pow-add e n a) ∙ spread_out (e ^ n) (e ^ a) (g ^ b) n high.0 k high.1 (omega arith)) in
      let some : 0 < 2 * 2 ^ suc s = omega (arith, pow_pos (suc s)) in
      sym (neg_ℤ-neg_ℤ (wave (2 * n) first y))
      ∙ ap neg_ℤ (sym (wave_halves (2 * n) first y (high.0 + k + 2 * high.0 * k) some) ∙ (ap (wave (2 * n) first) (sym place) ∙ cancel b j))
    where
      spread_out : (x y z n q k : ℕ) → x ≡ 1 + 4 * n * (2 * q + 1) → y * z ≡ 2 * k + 1 → x * y * z ≡ y * z + (2 * (q + k + 2 * q * k) + 1) * (2 * (2 * n))
      spread_out x y z n q k ex ey =
          let shifted : x * y * z ≡ x * (y * z) = omega arith in
          let wide : (y * z) * (4 * n * (2 * q + 1)) ≡ (2 * k + 1) * (4 * n * (2 * q + 1)) = ap (λ m. m * (4 * n * (2 * q + 1))) ey in
          shifted ∙ (ap (λ m. m * (y * z)) ex ∙ omega arith)

  turned_residue : (a b : ℕ) → a < 2 ^ suc s → b < 2 ^ suc s → residue_of (wave (2 * 2 ^ suc s) first (e ^ a * g ^ b)) % PRIME ≡ shifted (PRIME - 1) (2 ^ suc s) (λ k. residue_of (wave (2 * 2 ^ suc s) first (e ^ k))) b a % PRIME
  turned_residue a b ha hb = elim (cases_lt a b) [
    | inl after ↦
        let j : ℕ = 2 ^ suc s + a - b in
        let place : b + j ≡ 2 ^ suc s + a = omega arith in
        ap (λ x. x % PRIME) (ap residue_of (opposite a b j place) ∙ residue-neg (wave (2 * 2 ^ suc s) first (e ^ j)))
        ∙ (mod-mod ((PRIME - 1) * residue_of (wave (2 * 2 ^ suc s) first (e ^ j))) PRIME
        ∙ ap (λ x. x % PRIME) (sym (shifted_after (PRIME - 1) (2 ^ suc s) (λ k. residue_of (wave (2 * 2 ^ suc s) first (e ^ k))) b a j after place)))
    | inr before ↦
        let j : ℕ = a - b in
        let place : b + j ≡ a = omega arith in
        ap (λ x. x % PRIME) (ap (λ p. residue_of (wave (2 * 2 ^ suc s) first (e ^ p * g ^ b))) (sym place) ∙ (ap residue_of (cancel b j)
        ∙ sym (shifted_before (PRIME - 1) (2 ^ suc s) (λ k. residue_of (wave (2 * 2 ^ suc s) first (e ^ k))) b a j place)))
  ]

  correlation : (line : ℕ → ℤ) (a : ℕ) → a < 2 ^ suc s
      → residue_of (sum_below (2 ^ suc s) (λ b. line b *ℤ wave (2 * 2 ^ suc s) first (e ^ a * g ^ b)))
      ≡ product (PRIME - 1) (2 ^ suc s) (λ b. residue_of (line b)) (λ k. residue_of (wave (2 * 2 ^ suc s) first (e ^ k))) a % PRIME
  correlation line a ha =
      residue-sum (2 ^ suc s) (λ b. line b *ℤ wave (2 * 2 ^ suc s) first (e ^ a * g ^ b))
      ∙ total_mod PRIME (2 ^ suc s) _ _ (λ b hb.
      let x : ℤ = wave (2 * 2 ^ suc s) first (e ^ a * g ^ b) in
      ap (λ y. y % PRIME) (residue-mul (line b) x)
      ∙ (mod-mod (residue_of (line b) * residue_of x) PRIME
      ∙ mul_same PRIME (residue_of (line b)) (residue_of x) (residue_of (line b)) _ refl (turned_residue a b ha hb)))

  -- the plain sum at a power of e, by its residue
  pub plain_residue : (lines : ℕ → ℤ) (p a : ℕ) → g ≡ 1 + 4 * (2 * p + 1) → a < 2 ^ suc s
      → residue_of (sum_below (2 ^ suc s) (λ k. lines k *ℤ wave (2 * 2 ^ suc s) first (e ^ a * (2 * k + 1))))
      ≡ product (PRIME - 1) (2 ^ suc s) (λ b. residue_of (wave (2 * 2 ^ suc s) (λ u. lines (u / 2)) (g ^ b))) (λ k. residue_of (wave (2 * 2 ^ suc s) first (e ^ k))) a % PRIME
  plain_residue lines p a eg ha =
      ap residue_of (sum_over_powers lines first (e ^ a) s (odd_power e a (omega arith)) g p eg)
      ∙ correlation (λ b. wave (2 * 2 ^ suc s) (λ u. lines (u / 2)) (g ^ b)) a ha

-- a product whose second factor is given otherwise
pub product_alike : (c n : ℕ) (a b b' : ℕ → ℕ) → ((j : ℕ) → j < n → b j ≡ b' j) → (k : ℕ) → k < n → product c n a b k ≡ product c n a b' k
product_alike c n a b b' same k short = total_same n _ _ (λ i below. elim (cases_lt k i) [
  | inl after ↦
      let j : ℕ = n + k - i in
      let place : i + j ≡ n + k = omega arith in
      ap (λ t. a i * t) (shifted_after c n b i k j after place ∙ (ap (λ t. c * t) (same j (omega arith)) ∙ sym (shifted_after c n b' i k j after place)))
  | inr before ↦
      let j : ℕ = k - i in
      let place : i + j ≡ k = omega arith in
      ap (λ t. a i * t) (shifted_before c n b i k j place ∙ (same j (omega arith) ∙ sym (shifted_before c n b' i k j place)))
])
