-- The half sums of a silent spectrum.
use Rattle.std.proofs.Common.{◌≡◌, ℕ, zero, suc, ◌*◌, ◌/◌, ◌∙◌, sym, ap, refl, arith, ℤ, pos, negsuc, neg_ℤ, ◌+ℤ◌, ◌*ℤ◌, List, slice_index_or, length}
use Rattle.std.proofs.lemmas.List.FromFn.{fill_by_all}
use Rattle.model_synthesis.specs.Tables.{ConstantTables, cosq}
use Rattle.model_synthesis.specs.Transform.{sum_below, steps_of, sum_at}
use Rattle.half_sums.specs.HalfSums.{half_sums, half_place}

pub zero_times : (z : ℤ) → pos 0 *ℤ z ≡ pos 0
zero_times (pos n) = ap pos (let none : 0 * n ≡ 0 = omega arith in none)
zero_times (negsuc n) = ap (λ k. neg_ℤ (pos k)) (let none : 0 * suc n ≡ 0 = omega arith in none)

sum_of_none : (n : ℕ) (f : ℕ → ℤ) → ((k : ℕ) → f k ≡ pos 0) → sum_below n f ≡ pos 0
sum_of_none zero f h = refl
sum_of_none (suc n) f h = ap (λ x. x +ℤ f n) (sum_of_none n f h) ∙ ap (λ x. pos 0 +ℤ x) (h n)

module _ (tables : ConstantTables) (size : ℕ) (spectrum : List ℤ) (silent : (k : ℕ) → slice_index_or spectrum k (pos 0) ≡ pos 0) where
  silent_sum : (i : ℕ) → sum_at tables size spectrum i ≡ pos 0
  unfolding sum_at
  silent_sum i =
      sum_of_none (size / 2) (λ k. slice_index_or spectrum k (pos 0) *ℤ cosq tables size (steps_of size i k))
      (λ k. ap (λ x. x *ℤ cosq tables size (steps_of size i k)) (silent k) ∙ zero_times (cosq tables size (steps_of size i k)))

  pub silent_sums : (sums : List ℤ) → length sums ≡ size / 2 → ((k : ℕ) → slice_index_or sums k (pos 0) ≡ pos 0) → sums ≡ half_sums tables size spectrum
  unfolding half_sums
  silent_sums sums count zeros =
      fill_by_all (λ j. sum_at tables size spectrum (half_place size j)) sums (size / 2) (pos 0) count (λ j h. zeros j ∙ sym (silent_sum (half_place size j)))
