-- A product modulo x ^ 2 m - w ^ 2, taken modulo x ^ m - w, is the product of the factors taken so.
use Rattle.std.proofs.Common.{◌≡◌, ℕ, ◌+◌, ◌-◌, ◌*◌, ◌<◌, ◌∙◌, ap, inl, inr, arith}
use Rattle.std.proofs.lemmas.Bool.{cases_lt, le-leb, lt-leb, cond-true, cond-false}
use Rattle.number_transform.specs.Products.{total, shifted, product, folded}
use Rattle.number_transform.proofs.Totals.{total_same, total_add, total_split}

pub shifted_before : (c n : ℕ) (b : ℕ → ℕ) (i k j : ℕ) → i + j ≡ k → shifted c n b i k ≡ b j
shifted_before c n b i k j e =
    let place : k - i ≡ j = omega arith in
    cond-true _ _ _ (le-leb i k (omega arith)) ∙ ap b place

pub shifted_after : (c n : ℕ) (b : ℕ → ℕ) (i k j : ℕ) → k < i → i + j ≡ n + k → shifted c n b i k ≡ c * b j
shifted_after c n b i k j after e =
    let place : n + k - i ≡ j = omega arith in
    cond-false _ _ _ (lt-leb i k after) ∙ ap (λ p. c * b p) place

-- the two places that fall on one
module _ (w m : ℕ) (b : ℕ → ℕ) (i k : ℕ) (left : i < m) (right : k < m) where
  front_places : shifted (w * w) (m + m) b i k + w * shifted (w * w) (m + m) b i (m + k) ≡ shifted w m (folded w m b) i k
  front_places = elim (cases_lt k i) [
    | inl after ↦
        let j : ℕ = m + k - i in
        let place : i + j ≡ m + k = omega arith in
        let first : shifted (w * w) (m + m) b i k ≡ w * w * b (m + j) = shifted_after (w * w) (m + m) b i k (m + j) after (omega arith) in
        let second : shifted (w * w) (m + m) b i (m + k) ≡ b j = shifted_before (w * w) (m + m) b i (m + k) j place in
        let more : w * shifted (w * w) (m + m) b i (m + k) ≡ w * (b j) = ap (λ x. w * x) second in
        let both : shifted w m (folded w m b) i k ≡ w * folded w m b j = shifted_after w m (folded w m b) i k j after place in
        omega arith
    | inr before ↦
        let j : ℕ = k - i in
        let place : i + j ≡ k = omega arith in
        let first : shifted (w * w) (m + m) b i k ≡ b j = shifted_before (w * w) (m + m) b i k j place in
        let second : shifted (w * w) (m + m) b i (m + k) ≡ b (m + j) = shifted_before (w * w) (m + m) b i (m + k) (m + j) (omega arith) in
        let more : w * shifted (w * w) (m + m) b i (m + k) ≡ w * (b (m + j)) = ap (λ x. w * x) second in
        let both : shifted w m (folded w m b) i k ≡ folded w m b j = shifted_before w m (folded w m b) i k j place in
        omega arith
  ]

  back_places : shifted (w * w) (m + m) b (m + i) k + w * shifted (w * w) (m + m) b (m + i) (m + k) ≡ w * shifted w m (folded w m b) i k
  back_places = elim (cases_lt k i) [
    | inl after ↦
        let j : ℕ = m + k - i in
        let place : i + j ≡ m + k = omega arith in
        let first : shifted (w * w) (m + m) b (m + i) k ≡ w * w * b j = shifted_after (w * w) (m + m) b (m + i) k j (omega arith) (omega arith) in
        let second : shifted (w * w) (m + m) b (m + i) (m + k) ≡ w * w * b (m + j) = shifted_after (w * w) (m + m) b (m + i) (m + k) (m + j) (omega arith) (omega arith) in
        let more : w * shifted (w * w) (m + m) b (m + i) (m + k) ≡ w * (w * w * b (m + j)) = ap (λ x. w * x) second in
        let both : shifted w m (folded w m b) i k ≡ w * folded w m b j = shifted_after w m (folded w m b) i k j after place in
        let whole : w * shifted w m (folded w m b) i k ≡ w * (w * folded w m b j) = ap (λ x. w * x) both in
        omega arith
    | inr before ↦
        let j : ℕ = k - i in
        let place : i + j ≡ k = omega arith in
        let first : shifted (w * w) (m + m) b (m + i) k ≡ w * w * b (m + j) = shifted_after (w * w) (m + m) b (m + i) k (m + j) (omega arith) (omega arith) in
        let second : shifted (w * w) (m + m) b (m + i) (m + k) ≡ b j = shifted_before (w * w) (m + m) b (m + i) (m + k) j (omega arith) in
        let more : w * shifted (w * w) (m + m) b (m + i) (m + k) ≡ w * (b j) = ap (λ x. w * x) second in
        let both : shifted w m (folded w m b) i k ≡ folded w m b j = shifted_before w m (folded w m b) i k j place in
        let whole : w * shifted w m (folded w m b) i k ≡ w * (folded w m b j) = ap (λ x. w * x) both in
        omega arith
  ]

pair : (a a' w p q p' q' t : ℕ) → p + w * q ≡ t → p' + w * q' ≡ w * t → a * p + w * (a * q) + 1 * (a' * p' + w * (a' * q')) ≡ (a + w * a') * t
pair a a' w p q p' q' t front back =
    let first : a * (p + w * q) ≡ a * t = ap (λ x. a * x) front in
    let second : a' * (p' + w * q') ≡ a' * (w * t) = ap (λ x. a' * x) back in
    omega arith

pub folded_product : (w m : ℕ) (a b : ℕ → ℕ) (k : ℕ) → k < m → folded w m (product (w * w) (m + m) a b) k ≡ product w m (folded w m a) (folded w m b) k
folded_product w m a b k h =
    let near : ℕ → ℕ = λ i. a i * shifted (w * w) (m + m) b i k in
    let far : ℕ → ℕ = λ i. a i * shifted (w * w) (m + m) b i (m + k) in
    let both : ℕ → ℕ = λ i. near i + w * far i in
    let joined : total (m + m) both ≡ total (m + m) near + w * total (m + m) far = total_add (m + m) w near far in
    let halves : total (m + m) both ≡ total m both + total m (λ i. both (m + i)) = total_split m m both in
    let paired : total m (λ i. both i + 1 * both (m + i)) ≡ total m both + 1 * total m (λ i. both (m + i)) = total_add m 1 both (λ i. both (m + i)) in
    let each : (i : ℕ) → i < m → both i + 1 * both (m + i) ≡ folded w m a i * shifted w m (folded w m b) i k = λ i below.
    pair (a i) (a (m + i)) w _ _ _ _ _ (front_places w m b i k below h) (back_places w m b i k below h) in
    let all : total m (λ i. both i + 1 * both (m + i)) ≡ product w m (folded w m a) (folded w m b) k = total_same m _ _ each in
    omega arith
