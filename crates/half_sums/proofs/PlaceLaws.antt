-- Steps that give the same values, up to the sign.
use Rattle.std.proofs.Common.{◌≡◌, ℕ, ◌+◌, ◌-◌, ◌*◌, ◌/◌, ◌%◌, ◌<◌, ◌≤◌, ◌∙◌, sym, ap, inl, inr, arith, Bool, true, false, not, ℤ, neg_ℤ}
use Rattle.std.proofs.Math.IntN.{neg_ℤ-neg_ℤ}
use Rattle.std.proofs.lemmas.Bool.{lt-ltb, le-ltb, cond-true, cond-false}
use Rattle.model_synthesis.specs.Tables.{wave}
use Rattle.half_sums.specs.Places.{signed, IsNear, sum_index, sum_step}
use Rattle.model_synthesis.proofs.Waves.{wave_back, wave_halves, wave_mirror}
use Rattle.half_sums.proofs.Powers.{odd_product}

pub opposite_step : (size : ℕ) (f : ℕ → ℤ) (d e x : ℕ) → size % 2 ≡ 0 → 0 < size → d + e ≡ 2 * size → d % 2 ≡ 1 → x % 2 ≡ 1 → wave size f (e * x) ≡ neg_ℤ (wave size f (d * x))
opposite_step size f d e x even some whole odd odd_x =
    wave_back size f (d * x) (e * x) (x / 2) (turns d e x (x / 2) size whole (omega arith)) (odd_product d x odd odd_x) even some
  where
    turns : (d e x q n : ℕ) → d + e ≡ 2 * n → x ≡ 2 * q + 1 → d * x + e * x ≡ (2 * q + 1) * (2 * n)
    turns d e x q n h k =
        let first : (d + e) * x ≡ 2 * n * x = ap (λ y. y * x) h in
        let second : 2 * n * x ≡ 2 * n * (2 * q + 1) = ap (λ y. 2 * n * y) k in
        omega arith

pub half_turn_step : (size : ℕ) (f : ℕ → ℤ) (d e x : ℕ) → 0 < size → d + 2 * size ≡ e → x % 2 ≡ 1 → wave size f (e * x) ≡ neg_ℤ (wave size f (d * x))
half_turn_step size f d e x some whole odd_x =
    ap (wave size f) (turns d e x (x / 2) size whole (omega arith)) ∙ wave_halves size f (d * x) (x / 2) some
  where
    turns : (d e x q n : ℕ) → d + 2 * n ≡ e → x ≡ 2 * q + 1 → e * x ≡ d * x + (2 * q + 1) * (2 * n)
    turns d e x q n h k =
        let first : (d + 2 * n) * x ≡ e * x = ap (λ y. y * x) h in
        let second : 2 * n * x ≡ 2 * n * (2 * q + 1) = ap (λ y. 2 * n * y) k in
        omega arith

pub whole_turn_step : (size : ℕ) (f : ℕ → ℤ) (d e x : ℕ) → size % 2 ≡ 0 → 0 < size → d + e ≡ 4 * size → e % 2 ≡ 1 → x % 2 ≡ 1 → wave size f (e * x) ≡ wave size f (d * x)
whole_turn_step size f d e x even some whole odd odd_x =
    wave_mirror size f (e * x) (d * x) x (turns d e x size whole) (odd_product e x odd odd_x) even some
  where
    turns : (d e x n : ℕ) → d + e ≡ 4 * n → e * x + d * x ≡ x * (4 * n)
    turns d e x n h = let first : (d + e) * x ≡ 4 * n * x = ap (λ y. y * x) h in omega arith

pub other_sign : (b : Bool) (y z : ℤ) → y ≡ signed b z → neg_ℤ z ≡ signed (not b) y
other_sign true y z e = sym e
other_sign false y z e = ap neg_ℤ (sym e)

pub kept_sign : (b : Bool) (y z : ℤ) → y ≡ signed b z → z ≡ signed b y
kept_sign true y z e = sym (neg_ℤ-neg_ℤ z) ∙ ap neg_ℤ (sym e)
kept_sign false y z e = sym e

pub one_near : (size step a b : ℕ) → a < size → b < size → IsNear size step a → IsNear size step b → a ≡ b
one_near size step a b ha hb (inl ea) (inl eb) = ea ∙ sym eb
one_near size step a b ha hb (inl ea) (inr eb) = absurd (omega arith)
one_near size step a b ha hb (inr ea) (inl eb) = absurd (omega arith)
one_near size step a b ha hb (inr ea) (inr eb) = omega arith

pub sum_index_below : (size near : ℕ) → near < size / 2 → sum_index size near ≡ (size - 1 - near) / 2
sum_index_below size near h = cond-true _ _ _ (lt-ltb near (size / 2) h)

pub sum_index_above : (size near : ℕ) → size / 2 ≤ near → sum_index size near ≡ (near - size / 2 - 1) / 2
sum_index_above size near h = cond-false _ _ _ (le-ltb near (size / 2) h)

pub sum_step_front : (size j : ℕ) → j < size / 4 → sum_step size j ≡ 2 * j + 1 + size / 2
sum_step_front size j h = ap (λ p. 2 * p + 1 + size / 2) (cond-true _ j (j + size / 4) (lt-ltb j (size / 4) h))

pub sum_step_back : (size j : ℕ) → size / 4 ≤ j → sum_step size j ≡ 2 * (j + size / 4) + 1 + size / 2
sum_step_back size j h = ap (λ p. 2 * p + 1 + size / 2) (cond-false _ j (j + size / 4) (le-ltb j (size / 4) h))

pub sum_step_below : (size near : ℕ) → size % 4 ≡ 0 → near % 2 ≡ 1 → near < size / 2 → near + sum_step size ((size - 1 - near) / 2) ≡ 2 * size
sum_step_below size near four odd h =
    let step : sum_step size ((size - 1 - near) / 2) ≡ 2 * ((size - 1 - near) / 2 + size / 4) + 1 + size / 2 = sum_step_back size ((size - 1 - near) / 2) (omega arith) in
    omega arith

pub sum_step_above : (size near : ℕ) → size % 4 ≡ 0 → near % 2 ≡ 1 → size / 2 ≤ near → near < size → sum_step size ((near - size / 2 - 1) / 2) ≡ near
sum_step_above size near four odd low high =
    sum_step_front size ((near - size / 2 - 1) / 2) (omega arith) ∙ omega arith
