-- From the shares of the bins to the sums at powers.
use Rattle.std.proofs.Common.{◌≡◌, ℕ, zero, suc, ◌+◌, ◌-◌, ◌*◌, ◌/◌, ◌^◌, ◌<◌, ◌≤◌, ◌∙◌, sym, refl, ap, arith, ℤ, pos, negsuc, neg_ℤ, ◌+ℤ◌, ◌*ℤ◌, unsigned_abs, false, List, slice_index, slice_index_or, slice_get, Some, length, get_or}
use Rattle.std.proofs.lemmas.Int.{ints}
use Rattle.std.proofs.Math.IntN.{+ℤ_comm, suc_ℤ-*ℤ, neg_ℤ-neg_ℤ}
use Rattle.std.proofs.Math.Nat.{mul-one}
use Rattle.number_transform.specs.Products.{total}
use Rattle.model_synthesis.specs.declared.constants.TheConstants.{SCALE}
use Rattle.model_synthesis.specs.Tables.{ConstantTables, wave, first_quarter}
use Rattle.model_synthesis.specs.Transform.{sum_below}
use Rattle.model_synthesis.proofs.Waves.{wave_rest}
use Rattle.half_sums.specs.declared.block.TheConstants.{BIN_STEP, SUM_STEP}
use Rattle.half_sums.specs.declared.block.Block.{Block}
use Rattle.half_sums.specs.declared.places.Place.{Place}
use Rattle.half_sums.specs.Places.{AreBins}
use Rattle.half_sums.specs.Blocks.{AreCosines, AreWaves, IsBlockFor, cosine_at}
use Rattle.half_sums.specs.Shares.{bin_at, share_start, share_sum}
use Rattle.half_sums.proofs.IntSums.{sum_same, sum_add, swap_middle}
use Rattle.half_sums.proofs.SilentSums.{zero_times}
use Rattle.half_sums.proofs.Filled.{get_at}
use Rattle.half_sums.proofs.Powers.{odd_power}
use Rattle.half_sums.proofs.LineSums.{neg-times-neg, sum_over_powers}
use Rattle.half_sums.proofs.Correlation.{opposite}
use Rattle.half_sums.proofs.Whole.{inverse_steps}
use Rattle.half_sums.proofs.SumsAtPlaces.{power_sum}

moved : (w k : ℕ) (d : ℤ) → (pos w +ℤ d) ≡ pos k → pos w ≡ (pos k +ℤ neg_ℤ d)
moved w k d h = grind (arith, ints)

-- a product by a number that is raised by k
raised_product : (m w k : ℕ) (c : ℤ) → pos w ≡ (pos k +ℤ c) → pos (m * w) ≡ ((pos m *ℤ c) +ℤ pos (m * k))
raised_product zero w k c h =
    let none : 0 * w ≡ 0 + 0 * k = omega arith in
    ap pos none ∙ ap (λ x. x +ℤ pos (0 * k)) (sym (zero_times c))
raised_product (suc m) w k c h =
    let more : suc m * w ≡ m * w + w = omega arith in
    let further : m * k + k ≡ suc m * k = omega arith in
    ap pos more
    ∙ (ap (λ x. x +ℤ pos w) (raised_product m w k c h)
    ∙ (ap (λ x. ((pos m *ℤ c) +ℤ pos (m * k)) +ℤ x) (h ∙ +ℤ_comm (pos k) c)
    ∙ (swap_middle (pos m *ℤ c) (pos (m * k)) c (pos k)
    ∙ (ap (λ x. x +ℤ pos (m * k + k)) (sym (suc_ℤ-*ℤ (pos m) c)) ∙ ap (λ n. (pos (suc m) *ℤ c) +ℤ pos n) further))))

-- the share of a bin, by the two places where its waves may begin
one_share : (z c : ℤ) (n b a k : ℕ) (waves : ℕ → ℕ) → b ≤ n
    → pos (waves (n - b + a)) ≡ (pos k +ℤ c)
    → pos (waves (2 * n - b + a)) ≡ (pos k +ℤ neg_ℤ c)
    → pos (unsigned_abs z * waves (share_start n z b + a)) ≡ ((z *ℤ c) +ℤ pos (unsigned_abs z * k))
one_share (pos m) c n b a k waves below front back = raised_product m (waves (n - b + a)) k c front
one_share (negsuc m) c n b a k waves below front back =
    raised_product (suc m) (waves (2 * n - b + a)) k (neg_ℤ c) back
    ∙ ap (λ x. x +ℤ pos (suc m * k)) (neg-times-neg (negsuc m) c)

whole_total : (n : ℕ) (f : ℕ → ℕ) → pos (total n f) ≡ sum_below n (λ b. pos (f b))
whole_total zero f = refl
whole_total (suc n) f = ap (λ x. x +ℤ pos (f n)) (whole_total n f)

scaled_total : (n k : ℕ) (f : ℕ → ℕ) → total n (λ b. f b * k) ≡ total n f * k
scaled_total zero k f = omega arith
scaled_total (suc n) k f = let front : total n (λ b. f b * k) ≡ total n f * k = scaled_total n k f in omega arith

-- shares that are known add up to sums, raised by all magnitudes
shares_add : (n k : ℕ) (shares magnitudes : ℕ → ℕ) (terms : ℕ → ℤ) → ((b : ℕ) → b < n → pos (shares b) ≡ (terms b +ℤ pos (magnitudes b * k)))
    → pos (total n shares) ≡ (sum_below n terms +ℤ pos (total n magnitudes * k))
shares_add n k shares magnitudes terms each =
    whole_total n shares
    ∙ (sum_same n (λ b. pos (shares b)) (λ b. terms b +ℤ pos (magnitudes b * k)) each
    ∙ (sum_add n terms (λ b. pos (magnitudes b * k))
    ∙ ap (λ x. sum_below n terms +ℤ x) (sym (whole_total n (λ b. magnitudes b * k)) ∙ ap pos (scaled_total n k magnitudes))))

module _ (cosines : List ℕ) (waves : List ℕ) (s : ℕ) (few : suc s ≤ 12) (are : AreWaves (suc s) cosines waves) where
  cosine : ℕ → ℤ
  cosine t = wave (2 * 2 ^ suc s) (first_quarter cosines (2 * 2 ^ suc s)) t

  turned : (a b j : ℕ) → b + j ≡ 2 ^ suc s + a → wave (2 * 2 ^ suc s) (first_quarter cosines (2 * 2 ^ suc s)) (SUM_STEP ^ a * BIN_STEP ^ b) ≡ neg_ℤ (wave (2 * 2 ^ suc s) (first_quarter cosines (2 * 2 ^ suc s)) (SUM_STEP ^ j))
  turned a b j e = opposite (first_quarter cosines (2 * 2 ^ suc s)) s BIN_STEP SUM_STEP (3 * 2 ^ (12 - suc s)) 2457 (inverse_steps (suc s) few) refl refl a b j e

  -- the waves of a bin that isn't below zero
  front_wave : (a b : ℕ) → a < 2 ^ suc s → b < 2 ^ suc s
      → pos (slice_index waves (2 ^ suc s - b + a)) ≡ (pos (2 ^ SCALE) +ℤ wave (2 * 2 ^ suc s) (first_quarter cosines (2 * 2 ^ suc s)) (SUM_STEP ^ a * BIN_STEP ^ b))
  front_wave a b ha hb =
      let j : ℕ = 2 ^ suc s - b + a in
      moved (slice_index waves j) (2 ^ SCALE) _ (are.each j (omega arith))
      ∙ ap (λ x. pos (2 ^ SCALE) +ℤ x) (sym (turned a b j (omega arith)))

  -- those of a bin below zero
  back_wave : (a b : ℕ) → a < 2 ^ suc s → b < 2 ^ suc s
      → pos (slice_index waves (2 * 2 ^ suc s - b + a)) ≡ (pos (2 ^ SCALE) +ℤ neg_ℤ (wave (2 * 2 ^ suc s) (first_quarter cosines (2 * 2 ^ suc s)) (SUM_STEP ^ a * BIN_STEP ^ b)))
  back_wave a b ha hb =
      let j : ℕ = 2 ^ suc s - b + a in
      let i : ℕ = 2 * 2 ^ suc s - b + a in
      let first : ℕ → ℤ = first_quarter cosines (2 * 2 ^ suc s) in
      let again : wave (2 * 2 ^ suc s) first (SUM_STEP ^ j) ≡ neg_ℤ (wave (2 * 2 ^ suc s) first (SUM_STEP ^ i)) =
      ap (wave (2 * 2 ^ suc s) first) (sym (mul-one (SUM_STEP ^ j))) ∙ turned j 0 i (omega arith) in
      moved (slice_index waves i) (2 ^ SCALE) _ (are.each i (omega arith))
      ∙ ap (λ x. pos (2 ^ SCALE) +ℤ x) (sym again ∙ (sym (neg_ℤ-neg_ℤ (wave (2 * 2 ^ suc s) first (SUM_STEP ^ j))) ∙ ap neg_ℤ (sym (turned a b j (omega arith)))))

  -- the sum of all shares at a power
  pub shares_at : (bins : ℕ → ℤ) (magnitudes starts : List ℕ) (a : ℕ) → a < 2 ^ suc s
      → ((b : ℕ) → b < 2 ^ suc s → slice_index magnitudes b ≡ unsigned_abs (wave (2 * 2 ^ suc s) (λ u. bins (u / 2)) (BIN_STEP ^ b)))
      → ((b : ℕ) → b < 2 ^ suc s → slice_index starts b ≡ share_start (2 ^ suc s) (wave (2 * 2 ^ suc s) (λ u. bins (u / 2)) (BIN_STEP ^ b)) b)
      → pos (share_sum magnitudes starts waves (2 ^ suc s) a)
      ≡ (sum_below (2 ^ suc s) (λ k. bins k *ℤ cosine_at cosines (2 * 2 ^ suc s) (SUM_STEP ^ a * (2 * k + 1))) +ℤ pos (total (2 ^ suc s) (slice_index magnitudes) * 2 ^ SCALE))
  shares_at bins magnitudes starts a ha are_magnitudes are_starts =
      let n : ℕ = 2 ^ suc s in
      let first : ℕ → ℤ = first_quarter cosines (2 * 2 ^ suc s) in
      let z : ℕ → ℤ = λ b. wave (2 * 2 ^ suc s) (λ u. bins (u / 2)) (BIN_STEP ^ b) in
      let c : ℕ → ℤ = λ b. wave (2 * 2 ^ suc s) first (SUM_STEP ^ a * BIN_STEP ^ b) in
      shares_add n (2 ^ SCALE) (λ b. slice_index magnitudes b * slice_index waves (slice_index starts b + a)) (slice_index magnitudes) (λ b. z b *ℤ c b) (λ b hb.
      ap (λ m. pos (m * slice_index waves (slice_index starts b + a))) (are_magnitudes b hb)
      ∙ (ap (λ p. pos (unsigned_abs (z b) * slice_index waves (p + a))) (are_starts b hb)
      ∙ (one_share (z b) (c b) n b a (2 ^ SCALE) (slice_index waves) (omega arith) (front_wave a b ha hb) (back_wave a b ha hb)
      ∙ ap (λ m. (z b *ℤ c b) +ℤ pos (m * 2 ^ SCALE)) (sym (are_magnitudes b hb)))))
      ∙ ap (λ x. x +ℤ pos (total n (slice_index magnitudes) * 2 ^ SCALE))
      (sym (sum_over_powers bins first (SUM_STEP ^ a) s (odd_power SUM_STEP a refl) BIN_STEP 0 refl))

pub shares_are : (levels : ℕ) (tables : ConstantTables) (block : Block) (cosines : AreCosines tables.cosines) (is : IsBlockFor levels tables.cosines block)
    (spectrum : List ℤ) (bins : AreBins spectrum) (magnitudes starts : List ℕ) → levels ≤ 7
    → ((b : ℕ) (p : Place) → slice_get block.bins.items b ≡ Some p → slice_index magnitudes b ≡ unsigned_abs (bin_at spectrum p))
    → ((b : ℕ) (p : Place) → slice_get block.bins.items b ≡ Some p → slice_index starts b ≡ share_start (2 ^ levels) (bin_at spectrum p) b)
    → (a : ℕ) → a < 2 ^ levels
    → pos (share_sum magnitudes starts block.waves.items (2 ^ levels) a)
    ≡ (power_sum levels tables block cosines is spectrum bins a +ℤ pos (total (2 ^ levels) (slice_index magnitudes) * 2 ^ SCALE))
unfolding power_sum
shares_are zero tables block cosines is spectrum bins magnitudes starts short are_magnitudes are_starts a ha =
    let some : 2 ≤ 0 = is.some in
    absurd (omega arith)
shares_are (suc s) tables block cosines is spectrum bins magnitudes starts short are_magnitudes are_starts a ha =
    let place : ℕ → Place = λ b. get_or block.bins.items b (record { index = 0; negative = false }) in
    let count : length block.bins.items ≡ 2 ^ suc s = is.bins.count in
    let here : (b : ℕ) → b < 2 ^ suc s → slice_get block.bins.items b ≡ Some (get_or block.bins.items b (record { index = 0; negative = false })) = λ b hb.
    get_at block.bins.items b (record { index = 0; negative = false }) (omega arith) in
    let bin : (b : ℕ) → b < 2 ^ suc s → bin_at spectrum (get_or block.bins.items b (record { index = 0; negative = false })) ≡ wave (2 * 2 ^ suc s) (λ u. slice_index_or spectrum (u / 2) (pos 0)) (BIN_STEP ^ b) = λ b hb.
    sym ((is.bins.each b (place b) (here b hb)).1 (λ k. slice_index_or spectrum k (pos 0)))
    ∙ wave_rest (2 * 2 ^ suc s) (λ u. slice_index_or spectrum (u / 2) (pos 0)) (BIN_STEP ^ b) in
    shares_at tables.cosines block.waves.items s is.few (is.waves short) (λ k. slice_index_or spectrum k (pos 0)) magnitudes starts a ha
    (λ b hb. are_magnitudes b (place b) (here b hb) ∙ ap unsigned_abs (bin b hb))
    (λ b hb. are_starts b (place b) (here b hb) ∙ ap (λ z. share_start (2 ^ suc s) z b) (bin b hb))

pub lowered_is : (r z : ℤ) (k v : ℕ) → (r +ℤ pos k) ≡ pos v → pos v ≡ (z +ℤ pos k) → r ≡ z
lowered_is r z k v h e = grind (arith, ints)
