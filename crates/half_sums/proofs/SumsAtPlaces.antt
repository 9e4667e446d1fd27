-- From what is laid out to the half sums.
use Rattle.std.proofs.Common.{◌≡◌, ℕ, ◌+◌, ◌-◌, ◌*◌, ◌/◌, ◌%◌, ◌^◌, ◌<◌, ◌≤◌, ◌∙◌, sym, ap, subst, arith, ℤ, pos, ◌*ℤ◌, unsigned_abs, false, List, map, slice_index, slice_index_or, slice_get, Some, length, get_or}
use Rattle.std.specs.List.{range_with_len}
use Rattle.std.proofs.lemmas.List.FromFn.{fill_by_all, get_or-map-range_with_len}
use Rattle.number_transform.specs.declared.field.TheConstants.{PRIME}
use Rattle.number_transform.specs.Field.{residue_of}
use Rattle.number_transform.specs.Products.{product, product_list}
use Rattle.model_synthesis.specs.declared.constants.TheConstants.{SCALE}
use Rattle.model_synthesis.specs.declared.limits.TheConstants.{SPECTRUM_LIMIT}
use Rattle.model_synthesis.specs.Tables.{ConstantTables, first_quarter}
use Rattle.model_synthesis.specs.Transform.{sum_below, sum_at}
use Rattle.model_synthesis.proofs.Waves.{wave_rest, wave_small}
use Rattle.half_sums.specs.declared.block.TheConstants.{BIN_STEP, SUM_STEP}
use Rattle.half_sums.specs.declared.block.Block.{Block}
use Rattle.half_sums.specs.declared.places.Place.{Place}
use Rattle.half_sums.specs.HalfSums.{half_sums}
use Rattle.half_sums.specs.Places.{signed, AreBins, sum_step}
use Rattle.half_sums.specs.Blocks.{AreCosines, IsBlockFor, cosine_at, cosine_list, size_of}
use Rattle.half_sums.proofs.Filled.{Sizes, sizes, get_at}
use Rattle.half_sums.proofs.Bounds.{sum_bound, product_bound}
use Rattle.half_sums.proofs.Correlation.{product_alike}
use Rattle.half_sums.proofs.Whole.{sum_residue, sum_at_place, place_of}

module _ (levels : ℕ) (tables : ConstantTables) (block : Block) (cosines : AreCosines tables.cosines) (is : IsBlockFor levels tables.cosines block)
    (spectrum : List ℤ) (bins : AreBins spectrum) where
  bin : ℕ → ℤ
  bin k = slice_index_or spectrum k (pos 0)

  -- the sum at a power of the step
  unfoldable pub power_sum : ℕ → ℤ
  power_sum a = sum_below (2 ^ levels) (λ k. slice_index_or spectrum k (pos 0) *ℤ cosine_at tables.cosines (2 * 2 ^ levels) (SUM_STEP ^ a * (2 * k + 1)))

  pub power_sum_small : (a : ℕ) → 2 * unsigned_abs (power_sum a) < PRIME
  unfolding power_sum
  power_sum_small a =
      let all : Sizes levels = sizes levels is.few (let some : 2 ≤ levels = is.some in omega arith) in
      let each : (k : ℕ) → unsigned_abs (slice_index_or spectrum k (pos 0) *ℤ cosine_at tables.cosines (2 * 2 ^ levels) (SUM_STEP ^ a * (2 * k + 1))) ≤ SPECTRUM_LIMIT * 2 ^ SCALE = λ k.
      product_bound (slice_index_or spectrum k (pos 0)) (cosine_at tables.cosines (2 * 2 ^ levels) (SUM_STEP ^ a * (2 * k + 1))) SPECTRUM_LIMIT (2 ^ SCALE) (bins k)
      (wave_small (2 * 2 ^ levels) (first_quarter tables.cosines (2 * 2 ^ levels)) (2 ^ SCALE) (λ u. cosines.small (u * (8192 / (2 * 2 ^ levels)))) (SUM_STEP ^ a * (2 * k + 1))) in
      let whole : unsigned_abs (sum_below (2 ^ levels) (λ k. slice_index_or spectrum k (pos 0) *ℤ cosine_at tables.cosines (2 * 2 ^ levels) (SUM_STEP ^ a * (2 * k + 1)))) ≤ 2 ^ levels * (SPECTRUM_LIMIT * 2 ^ SCALE) =
      sum_bound (2 ^ levels) (SPECTRUM_LIMIT * 2 ^ SCALE) _ each in
      let most : 2 ^ levels ≤ 4096 = all.most in
      omega arith

  -- what the product of the gathered bins holds
  pub products_are : (values new : List ℕ)
      → ((b : ℕ) (p : Place) → slice_get block.bins.items b ≡ Some p → slice_index values b ≡ residue_of (signed p.negative (slice_index_or spectrum p.index (pos 0))))
      → new ≡ product_list (2 ^ levels) values (cosine_list tables.cosines levels)
      → (a : ℕ) → a < 2 ^ levels → slice_index new a ≡ residue_of (power_sum a)
  unfolding power_sum
  products_are values new gathered multiplied a below =
      let n : ℕ = 2 ^ levels in
      let cosine : ℕ → ℕ = λ k. residue_of (cosine_at tables.cosines (2 * n) (SUM_STEP ^ k)) in
      let some : 2 ≤ levels = is.some in
      ap (λ (l : List ℕ). get_or l a 0) multiplied
      ∙ (get_or-map-range_with_len (λ k. product (PRIME - 1) n (slice_index values) (slice_index (cosine_list tables.cosines levels)) k % PRIME) 0 n a a 0 below (omega arith)
      ∙ (ap (λ x. x % PRIME) (product_alike (PRIME - 1) n (slice_index values) (slice_index (cosine_list tables.cosines levels)) cosine (λ j within.
      get_or-map-range_with_len cosine 0 n j j 0 within (omega arith)) a below)
      ∙ sum_residue levels tables.cosines (λ k. slice_index_or spectrum k (pos 0)) (slice_index values) is.few (omega arith)
      (λ b short.
      let count : length block.bins.items ≡ 2 ^ levels = is.bins.count in
      let within : b < length block.bins.items = omega arith in
      let p : Place = get_or block.bins.items b (record { index = 0; negative = false }) in
      let here : slice_get block.bins.items b ≡ Some p = get_at block.bins.items b (record { index = 0; negative = false }) within in
      gathered b p here
      ∙ ap residue_of (sym ((is.bins.each b p here).1 (λ k. slice_index_or spectrum k (pos 0))) ∙ wave_rest (2 * 2 ^ levels) (λ u. slice_index_or spectrum (u / 2) (pos 0)) (BIN_STEP ^ b)))
      a below))

  -- the half sum at an index
  unfoldable pub target : ℕ → ℤ
  target j = sum_below (2 ^ levels) (λ k. slice_index_or spectrum k (pos 0) *ℤ cosine_at tables.cosines (2 * 2 ^ levels) (sum_step (2 * 2 ^ levels) j * (2 * k + 1)))

  pub places_agree : (a : ℕ) (p : Place) → slice_get block.sums.items a ≡ Some p → signed p.negative (power_sum a) ≡ target p.index
  unfolding power_sum target
  places_agree a p got = sum_at_place (2 * 2 ^ levels) (2 ^ levels) (first_quarter tables.cosines (2 * 2 ^ levels)) (λ k. slice_index_or spectrum k (pos 0)) (SUM_STEP ^ a) p (is.sums.each a p got)

  pub sums_are : (sums : List ℤ) → length sums ≡ 2 ^ levels → ((a : ℕ) (p : Place) → slice_get block.sums.items a ≡ Some p → slice_index_or sums p.index (pos 0) ≡ target p.index) → sums ≡ half_sums tables (size_of levels) spectrum
  unfolding target half_sums sum_at
  sums_are sums size put =
      let half : 2 * 2 ^ levels / 2 ≡ 2 ^ levels = omega arith in
      subst (λ n. sums ≡ map (λ j. sum_below n (λ k. slice_index_or spectrum k (pos 0) *ℤ cosine_at tables.cosines (2 * 2 ^ levels) (sum_step (2 * 2 ^ levels) j * (2 * k + 1)))) (range_with_len 0 n)) (sym half)
      (fill_by_all target sums (2 ^ levels) (pos 0) size (λ j below.
      let some : 2 ≤ levels = is.some in
      let found = place_of levels j is.few (omega arith) below in
      let count : length block.sums.items ≡ 2 ^ levels = is.sums.count in
      let within : found.0 < length block.sums.items = omega (arith, found.1) in
      let p : Place = get_or block.sums.items found.0 (record { index = 0; negative = false }) in
      let here : slice_get block.sums.items found.0 ≡ Some p = get_at block.sums.items found.0 (record { index = 0; negative = false }) within in
      let at : p.index ≡ j = found.2 p (is.sums.each found.0 p here) in
      subst (λ i. get_or sums i (pos 0) ≡ target i) at (put found.0 p here)))
