-- Half of a block's sums are the other half turned round.
use Rattle.std.proofs.Common.{◌≡◌, ℕ, ◌+◌, ◌*◌, ◌/◌, ◌%◌, ◌∙◌, sym, ap, List, ℤ, pos, ◌*ℤ◌, neg_ℤ, slice_index_or, arith}
use Rattle.model_setup.specs.HeaderPackets.{IsBlockSize}
use Rattle.model_synthesis.specs.Tables.{ConstantTables, first_quarter, cosq}
use Rattle.model_synthesis.specs.Transform.{steps_of, sum_at}
use Rattle.model_synthesis.proofs.BlockSizes.{block_size_in_quarters, block_size_some}
use Rattle.model_synthesis.proofs.Waves.{wave_back, wave_mirror}
use Rattle.model_synthesis.proofs.Sums.{sum_below-same, sum_below-neg, *ℤ-neg_ℤ}

module _ (tables : ConstantTables) (size : ℕ) (spectrum : List ℤ) (i j : ℕ) (is : IsBlockSize size) where
  abbrev bin : ℕ → ℤ
  bin k = slice_index_or spectrum k (pos 0)

  odd_product : (p k : ℕ) → ((2 * p + 1) * (2 * k + 1)) % 2 ≡ 1
  odd_product p k =
      let whole : (2 * p + 1) * (2 * k + 1) ≡ 2 * (2 * (p * k) + p + k) + 1 = omega arith in
      omega arith

  odd_steps : (k : ℕ) → steps_of size i k % 2 ≡ 1
  odd_steps k =
      let q : ℕ = (block_size_in_quarters size is).0 in
      let whole : size ≡ 4 * q = (block_size_in_quarters size is).1 in
      let factor : 2 * i + 1 + size / 2 ≡ 2 * (i + q) + 1 = omega arith in
      ap (λ n. (n * (2 * k + 1)) % 2) factor ∙ odd_product (i + q) k

  together : (k whole : ℕ) → 2 * i + 1 + size / 2 + (2 * j + 1 + size / 2) ≡ whole → steps_of size i k + steps_of size j k ≡ whole * (2 * k + 1)
  together k whole e =
      let apart : steps_of size i k + steps_of size j k ≡ (2 * i + 1 + size / 2 + (2 * j + 1 + size / 2)) * (2 * k + 1) = omega arith in
      apart ∙ ap (λ n. n * (2 * k + 1)) e

  pub second_of_first : i + j + 1 ≡ size / 2 → sum_at tables size spectrum j ≡ neg_ℤ (sum_at tables size spectrum i)
  unfolding sum_at
  second_of_first e =
      let q : ℕ = (block_size_in_quarters size is).0 in
      let whole : size ≡ 4 * q = (block_size_in_quarters size is).1 in
      let even : size % 2 ≡ 0 = omega arith in
      let half : 2 * i + 1 + size / 2 + (2 * j + 1 + size / 2) ≡ 2 * size = omega arith in
      let turned : (k : ℕ) → cosq tables size (steps_of size j k) ≡ neg_ℤ (cosq tables size (steps_of size i k)) = λ k.
      wave_back size (first_quarter tables.cosines size) (steps_of size i k) (steps_of size j k) k
      (together k (2 * size) half ∙ omega arith) (odd_steps k) even (block_size_some size is) in
      sum_below-same (size / 2) (λ k. bin k *ℤ cosq tables size (steps_of size j k)) (λ k. neg_ℤ (bin k *ℤ cosq tables size (steps_of size i k)))
      (λ k. ap (λ c. bin k *ℤ c) (turned k) ∙ *ℤ-neg_ℤ (bin k) (cosq tables size (steps_of size i k)))
      ∙ sum_below-neg (size / 2) (λ k. bin k *ℤ cosq tables size (steps_of size i k))

  pub fourth_of_third : i + j + 1 ≡ 3 * (size / 2) → sum_at tables size spectrum j ≡ sum_at tables size spectrum i
  unfolding sum_at
  fourth_of_third e =
      let q : ℕ = (block_size_in_quarters size is).0 in
      let whole : size ≡ 4 * q = (block_size_in_quarters size is).1 in
      let even : size % 2 ≡ 0 = omega arith in
      let half : 2 * i + 1 + size / 2 + (2 * j + 1 + size / 2) ≡ 4 * size = omega arith in
      let same : (k : ℕ) → cosq tables size (steps_of size j k) ≡ cosq tables size (steps_of size i k) = λ k.
      sym (wave_mirror size (first_quarter tables.cosines size) (steps_of size i k) (steps_of size j k) (2 * k + 1)
      (together k (4 * size) half ∙ omega arith) (odd_steps k) even (block_size_some size is)) in
      sum_below-same (size / 2) (λ k. bin k *ℤ cosq tables size (steps_of size j k)) (λ k. bin k *ℤ cosq tables size (steps_of size i k))
      (λ k. ap (λ c. bin k *ℤ c) (same k))
