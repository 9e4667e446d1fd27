-- A sum over the lines is a sum over powers of a number that is 5 modulo 8.
use Rattle.std.proofs.Common.{◌≡◌, ℕ, zero, suc, ◌+◌, ◌*◌, ◌/◌, ◌%◌, ◌^◌, ◌<◌, ◌∙◌, sym, refl, ap, arith, ℤ, pos, negsuc, neg_ℤ, ◌*ℤ◌}
use Rattle.std.proofs.lemmas.Nat.{pow_pos}
use Rattle.model_synthesis.specs.Tables.{wave}
use Rattle.model_synthesis.specs.Transform.{sum_below}
use Rattle.model_synthesis.proofs.Waves.{wave_first, wave_back, wave_halves, wave_half}
use Rattle.half_sums.proofs.IntSums.{sum_same}
use Rattle.half_sums.proofs.Powers.{sum_of_powers, sum_of_odds, odd_product, twice}

none : (n : ℕ) → n ≡ 0 → neg_ℤ (pos n) ≡ pos n
none n e = ap (λ k. neg_ℤ (pos k)) e ∙ sym (ap pos e)

pub neg-times-neg : (a b : ℤ) → neg_ℤ a *ℤ neg_ℤ b ≡ a *ℤ b
neg-times-neg (pos zero) (pos zero) = refl
neg-times-neg (pos zero) (pos (suc b)) = none (0 * suc b) (omega arith)
neg-times-neg (pos zero) (negsuc b) = sym (none (0 * suc b) (omega arith))
neg-times-neg (pos (suc a)) (pos zero) = none (suc a * 0) (omega arith)
neg-times-neg (pos (suc a)) (pos (suc b)) = refl
neg-times-neg (pos (suc a)) (negsuc b) = refl
neg-times-neg (negsuc a) (pos zero) = sym (none (suc a * 0) (omega arith))
neg-times-neg (negsuc a) (pos (suc b)) = refl
neg-times-neg (negsuc a) (negsuc b) = refl

module _ (lines first : ℕ → ℤ) (m s : ℕ) (odd : m % 2 ≡ 1) where
  size : ℕ
  size = 2 * 2 ^ suc s

  -- the lines as a wave
  spread : ℕ → ℤ
  spread t = wave (2 * 2 ^ suc s) (λ u. lines (u / 2)) t

  term : ℕ → ℤ
  term t = spread t *ℤ wave (2 * 2 ^ suc s) first (m * t)

  term_comes : (t : ℕ) → term (t + 4 * 2 ^ suc s) ≡ term t
  unfolding term spread
  term_comes t =
      let n : ℕ = 2 ^ suc s in
      let some : 0 < 2 * 2 ^ suc s = omega (arith, pow_pos (suc s)) in
      let turn : t + 4 * n ≡ t + 2 * (2 * n) = omega arith in
      let q : ℕ = m / 2 in
      let place : m * (t + 4 * n) ≡ m * t + (2 * q + 1) * (2 * (2 * n)) = spread_out m q t n (omega arith) in
      let a : ℤ = wave (2 * n) (λ u. lines (u / 2)) t in
      ap (λ p. wave (2 * n) (λ u. lines (u / 2)) p *ℤ wave (2 * n) first (m * (t + 4 * n))) turn
      ∙ (ap (λ x. x *ℤ wave (2 * n) first (m * (t + 4 * n))) (wave_half (2 * n) (λ u. lines (u / 2)) t some)
      ∙ (ap (λ p. neg_ℤ a *ℤ wave (2 * n) first p) place
      ∙ (ap (λ x. neg_ℤ a *ℤ x) (wave_halves (2 * n) first (m * t) q some)
      ∙ neg-times-neg a (wave (2 * n) first (m * t)))))
    where
      spread_out : (m q t n : ℕ) → m ≡ 2 * q + 1 → m * (t + 4 * n) ≡ m * t + (2 * q + 1) * (2 * (2 * n))
      spread_out m q t n e = let same : m * (4 * n) ≡ (2 * q + 1) * (4 * n) = ap (λ x. x * (4 * n)) e in omega arith

  term_back : (t u : ℕ) → t % 2 ≡ 1 → t + u ≡ 8 * 2 ^ s → term t ≡ term u
  unfolding term spread
  term_back t u odd_step e =
      let n : ℕ = 2 ^ suc s in
      let some : 0 < 2 * 2 ^ suc s = omega (arith, pow_pos (suc s)) in
      let even : (2 * 2 ^ suc s) % 2 ≡ 0 = omega arith in
      let q : ℕ = m / 2 in
      let two : 2 ^ suc s ≡ 2 ^ s + 2 ^ s = twice s in
      let once : t + u ≡ (2 * 0 + 1) * (2 * (2 * n)) = omega arith in
      let often : m * t + m * u ≡ (2 * q + 1) * (2 * (2 * n)) = spread_out m q t u (2 * (2 * n)) (omega arith) (omega arith) in
      let a : ℤ = wave (2 * n) (λ v. lines (v / 2)) t in
      let b : ℤ = wave (2 * n) first (m * t) in
      sym (neg-times-neg a b)
      ∙ (ap (λ x. x *ℤ neg_ℤ b) (sym (wave_back (2 * n) (λ v. lines (v / 2)) t u 0 once odd_step even some))
      ∙ ap (λ x. wave (2 * n) (λ v. lines (v / 2)) u *ℤ x) (sym (wave_back (2 * n) first (m * t) (m * u) q often (odd_product m t odd odd_step) even some)))
    where
      spread_out : (m q t u x : ℕ) → m ≡ 2 * q + 1 → t + u ≡ x → m * t + m * u ≡ (2 * q + 1) * x
      spread_out m q t u x e f =
          let same : m * (t + u) ≡ (2 * q + 1) * (t + u) = ap (λ y. y * (t + u)) e in
          let other : (2 * q + 1) * (t + u) ≡ (2 * q + 1) * x = ap (λ y. (2 * q + 1) * y) f in
          omega arith

  pub sum_over_powers : (g o : ℕ) → g ≡ 1 + 4 * (2 * o + 1)
      → sum_below (2 ^ suc s) (λ k. lines k *ℤ wave (2 * 2 ^ suc s) first (m * (2 * k + 1))) ≡ sum_below (2 ^ suc s) (λ b. wave (2 * 2 ^ suc s) (λ u. lines (u / 2)) (g ^ b) *ℤ wave (2 * 2 ^ suc s) first (m * g ^ b))
  unfolding term spread
  sum_over_powers g o e =
      let n : ℕ = 2 ^ suc s in
      sum_same n (λ k. lines k *ℤ wave (2 * n) first (m * (2 * k + 1))) (λ k. term (2 * k + 1)) (λ k below.
      let half : (2 * k + 1) / 2 ≡ k = omega arith in
      ap (λ x. x *ℤ wave (2 * n) first (m * (2 * k + 1))) (sym (wave_first (2 * n) (λ u. lines (u / 2)) (2 * k + 1) (omega arith) ∙ ap lines half)))
      ∙ (ap (λ c. sum_below c (λ k. term (2 * k + 1))) (twice s)
      ∙ (sym (sum_of_odds (2 ^ s) term term_back)
      ∙ (ap (λ c. sum_below c (λ j. term (4 * j + 1))) (sym (twice s))
      ∙ sym (sum_of_powers g o (suc s) term e term_comes))))
