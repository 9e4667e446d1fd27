-- How large the half sums are.
use Rattle.std.proofs.Common.{◌≡◌, ℕ, ◌*◌, ◌/◌, ◌^◌, ◌≤◌, ◌∙◌, sym, refl, [], subst, arith, ℤ, pos, ◌*ℤ◌, unsigned_abs, List, slice_index_or, length}
use Rattle.std.specs.List.{All}
use Rattle.std.proofs.lemmas.List.FromFn.{length-map-range_with_len, get_or-map-range_with_len}
use Rattle.model_synthesis.specs.declared.constants.TheConstants.{SCALE}
use Rattle.model_synthesis.specs.declared.limits.TheConstants.{SPECTRUM_LIMIT}
use Rattle.model_synthesis.specs.Tables.{ConstantTables, first_quarter, cosq}
use Rattle.model_synthesis.specs.Transform.{steps_of, sum_at}
use Rattle.model_synthesis.proofs.Waves.{wave_small}
use Rattle.half_sums.specs.HalfSums.{IsSum, AreHalfSums, half_sums, half_place}
use Rattle.half_sums.specs.Places.{AreBins}
use Rattle.half_sums.specs.Blocks.{AreCosines}
use Rattle.half_sums.proofs.Bounds.{sum_bound, product_bound}

module _ (tables : ConstantTables) (cosines : AreCosines tables.cosines) (spectrum : List ℤ) (bins : AreBins spectrum) (size : ℕ) (few : size ≤ 8192) where
  sum_at_small : (i : ℕ) → IsSum (sum_at tables size spectrum i)
  unfolding sum_at
  sum_at_small i =
      let each : (k : ℕ) → unsigned_abs (slice_index_or spectrum k (pos 0) *ℤ cosq tables size (steps_of size i k)) ≤ SPECTRUM_LIMIT * 2 ^ SCALE = λ k.
      product_bound (slice_index_or spectrum k (pos 0)) (cosq tables size (steps_of size i k)) SPECTRUM_LIMIT (2 ^ SCALE) (bins k)
      (wave_small size (first_quarter tables.cosines size) (2 ^ SCALE) (λ u. cosines.small (u * (8192 / size))) (steps_of size i k)) in
      let whole : unsigned_abs (sum_at tables size spectrum i) ≤ size / 2 * (SPECTRUM_LIMIT * 2 ^ SCALE) = sum_bound (size / 2) (SPECTRUM_LIMIT * 2 ^ SCALE) _ each in
      let half : size / 2 ≤ 4096 = omega arith in
      omega (arith, whole)

  pub half_sums_small : All IsSum (half_sums tables size spectrum)
  unfolding half_sums
  half_sums_small j d below =
      let count : length (half_sums tables size spectrum) ≡ size / 2 = length-map-range_with_len (λ j. sum_at tables size spectrum (half_place size j)) 0 (size / 2) in
      subst IsSum
      (sym (get_or-map-range_with_len (λ j. sum_at tables size spectrum (half_place size j)) 0 (size / 2) j j d (omega arith) (omega arith)))
      (sum_at_small (half_place size j))

-- tables with these cosines
with_cosines : List ℕ → ConstantTables
with_cosines cosines = record { scale = SCALE; decibels = []; slopes = []; cosines = cosines }

same_cosines : (cosines : List ℕ) → (with_cosines cosines).cosines ≡ cosines
unfolding with_cosines
same_cosines cosines = refl

sums_small : (cosines cosines' : List ℕ) (sums spectrum : List ℤ) (size : ℕ) → AreCosines cosines → cosines ≡ cosines' → AreBins spectrum → size ≤ 8192
    → ((tables : ConstantTables) → tables.cosines ≡ cosines' → sums ≡ half_sums tables size spectrum) → All IsSum sums
sums_small cosines cosines' sums spectrum size are same bins few values =
    subst (All IsSum) (sym (values (with_cosines cosines) (same_cosines cosines ∙ same)))
    (half_sums_small (with_cosines cosines) (subst AreCosines (sym (same_cosines cosines)) are) spectrum bins size few)

-- sums that are right under all tables with these cosines are the half sums, since they are small
pub half_sums_are : (cosines cosines' : List ℕ) (sums spectrum : List ℤ) (size : ℕ) → AreCosines cosines → cosines ≡ cosines' → AreBins spectrum → size ≤ 8192
    → 2 * length spectrum ≡ size
    → ((tables : ConstantTables) → tables.cosines ≡ cosines' → sums ≡ half_sums tables size spectrum) → AreHalfSums cosines' spectrum sums
half_sums_are cosines cosines' sums spectrum size are same bins few whole values = record {
  values = λ tables there. subst (λ n. sums ≡ half_sums tables n spectrum) (sym whole) (values tables there);
  small = sums_small cosines cosines' sums spectrum size are same bins few values;
}
