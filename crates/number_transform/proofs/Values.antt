-- The value of a product is the product of the values.
use Rattle.std.proofs.Common.{◌≡◌, ℕ, zero, suc, ◌+◌, ◌-◌, ◌*◌, ◌^◌, ◌<◌, ◌∙◌, sym, refl, ap, arith}
use Rattle.std.proofs.lemmas.Nat.{pow-add}
use Rattle.number_transform.specs.Products.{total, value, shifted, product}
use Rattle.number_transform.proofs.Totals.{total_same, total_add, total_split}
use Rattle.number_transform.proofs.Folding.{shifted_before, shifted_after}

total_none : (n : ℕ) → total n (λ _. 0) ≡ 0
total_none zero = refl
total_none (suc n) = let front : total n (λ _. 0) ≡ 0 = total_none n in omega arith

pub total_times : (n z : ℕ) (f : ℕ → ℕ) → total n (λ i. z * f i) ≡ z * total n f
total_times zero z f = omega arith
total_times (suc n) z f =
    let front : total n (λ i. z * f i) ≡ z * total n f = total_times n z f in
    omega arith

times_right : (n z : ℕ) (f : ℕ → ℕ) → total n f * z ≡ total n (λ i. f i * z)
times_right zero z f = omega arith
times_right (suc n) z f =
    let front : total n f * z ≡ total n (λ i. f i * z) = times_right n z f in
    omega arith

total_swap : (m n : ℕ) (f : ℕ → ℕ → ℕ) → total m (λ i. total n (f i)) ≡ total n (λ k. total m (λ i. f i k))
total_swap zero n f = sym (total_none n)
total_swap (suc m) n f =
    let before : total m (λ i. total n (f i)) ≡ total n (λ k. total m (λ i. f i k)) = total_swap m n f in
    let both : total n (λ k. total m (λ i. f i k) + 1 * f m k) ≡ total n (λ k. total m (λ i. f i k)) + 1 * total n (f m) =
    total_add n 1 (λ k. total m (λ i. f i k)) (f m) in
    let same : total n (λ k. total m (λ i. f i k) + f m k) ≡ total n (λ k. total m (λ i. f i k) + 1 * f m k) =
    total_same n _ _ (λ k _. omega arith) in
    omega arith

-- a polynomial times x ^ i
module _ (m i x : ℕ) (b : ℕ → ℕ) where
  term : ℕ → ℕ
  term j = b j * x ^ j

  front_term : (k : ℕ) → k < i → shifted (x ^ (i + m)) (i + m) b i k * x ^ k ≡ x ^ i * term (m + k)
  unfolding term
  front_term k below =
      let here : shifted (x ^ (i + m)) (i + m) b i k ≡ x ^ (i + m) * b (m + k) =
      shifted_after (x ^ (i + m)) (i + m) b i k (m + k) below (omega arith) in
      ap (λ y. y * x ^ k) here ∙ regroup (x ^ (i + m)) (x ^ i) (x ^ m) (x ^ k) (x ^ (m + k)) (b (m + k)) (pow-add x i m) (pow-add x m k)
    where
      regroup : (c p q r s y : ℕ) → c ≡ p * q → s ≡ q * r → c * y * r ≡ p * (y * s)
      regroup c p q r s y ec es =
          let first : c * (y * r) ≡ p * q * (y * r) = ap (λ z. z * (y * r)) ec in
          let second : p * y * s ≡ p * y * (q * r) = ap (λ z. p * y * z) es in
          omega arith

  back_term : (j : ℕ) → shifted (x ^ (i + m)) (i + m) b i (i + j) * x ^ (i + j) ≡ x ^ i * term j
  unfolding term
  back_term j =
      let here : shifted (x ^ (i + m)) (i + m) b i (i + j) ≡ b j = shifted_before (x ^ (i + m)) (i + m) b i (i + j) j refl in
      ap (λ y. y * x ^ (i + j)) here ∙ (ap (λ y. b j * y) (pow-add x i j) ∙ swap (b j) (x ^ i) (x ^ j))
    where
      swap : (p q r : ℕ) → p * (q * r) ≡ q * (p * r)
      swap p q r = omega arith

  shifted_value : total (i + m) (λ k. shifted (x ^ (i + m)) (i + m) b i k * x ^ k) ≡ x ^ i * value (i + m) b x
  unfolding term
  shifted_value =
      let whole : ℕ → ℕ = λ k. shifted (x ^ (i + m)) (i + m) b i k * x ^ k in
      let halves : total (i + m) whole ≡ total i whole + total m (λ j. whole (i + j)) = total_split i m whole in
      let front : total i whole ≡ x ^ i * total i (λ k. term (m + k)) = total_same i _ _ front_term ∙ total_times i (x ^ i) (λ k. term (m + k)) in
      let back : total m (λ j. whole (i + j)) ≡ x ^ i * total m term = total_same m _ _ (λ j _. back_term j) ∙ total_times m (x ^ i) term in
      let turned : i + m ≡ m + i = omega arith in
      let other : total (i + m) term ≡ total m term + total i (λ k. term (m + k)) = ap (λ n. total n term) turned ∙ total_split m i term in
      let scaled : x ^ i * total (i + m) term ≡ x ^ i * (total m term + total i (λ k. term (m + k))) = ap (λ y. x ^ i * y) other in
      omega arith

pub value_product : (n x : ℕ) (a b : ℕ → ℕ) → value n (product (x ^ n) n a b) x ≡ value n a x * value n b x
value_product n x a b =
    let spread : ℕ → ℕ → ℕ = λ i k. a i * shifted (x ^ n) n b i k in
    let each : (i : ℕ) → i < n → total n (λ k. spread i k * x ^ k) ≡ a i * x ^ i * value n b x = λ i below.
    let one : total n (λ k. shifted (x ^ n) n b i k * x ^ k) ≡ x ^ i * value n b x =
    let m : ℕ = n - i in
    let whole : i + m ≡ n = omega arith in
    ap (λ c. total c (λ k. shifted (x ^ c) c b i k * x ^ k)) (sym whole) ∙ (shifted_value m i x b ∙ ap (λ c. x ^ i * value c b x) whole) in
    total_same n _ (λ k. a i * (shifted (x ^ n) n b i k * x ^ k)) (λ k _. omega arith)
    ∙ (total_times n (a i) (λ k. shifted (x ^ n) n b i k * x ^ k) ∙ (ap (λ y. a i * y) one ∙ omega arith)) in
    total_same n _ (λ k. total n (λ i. spread i k * x ^ k)) (λ k _. times_right n (x ^ k) (λ i. spread i k))
    ∙ (total_swap n n (λ k i. spread i k * x ^ k)
    ∙ (total_same n _ (λ i. a i * x ^ i * value n b x) each
    ∙ sym (times_right n (value n b x) (λ i. a i * x ^ i))))
