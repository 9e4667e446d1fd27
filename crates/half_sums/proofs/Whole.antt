-- From the product of residues to the plain sums.
use Rattle.std.proofs.Common.{◌≡◌, ◌⊎◌, ℕ, zero, suc, ◌+◌, ◌-◌, ◌*◌, ◌/◌, ◌%◌, ◌^◌, ◌<◌, ◌≤◌, ◌∙◌, sym, refl, ap, subst, inl, inr, arith, Bool, true, false, ℤ, neg_ℤ, ◌*ℤ◌, List}
use Rattle.std.proofs.Math.Nat.{pow-suc, mod-eq_of_lt, div-add-mod'}
use Rattle.std.proofs.lemmas.Nat.{pow-add, mul-mod_first}
use Rattle.std.proofs.lemmas.Bool.{cases_lt, cases_eq}
use Rattle.number_transform.specs.declared.field.TheConstants.{PRIME}
use Rattle.number_transform.specs.Field.{residue_of}
use Rattle.number_transform.specs.Products.{shifted, product}
use Rattle.model_synthesis.specs.Tables.{wave, first_quarter}
use Rattle.model_synthesis.specs.Transform.{sum_below}
use Rattle.half_sums.specs.declared.block.TheConstants.{BIN_STEP, SUM_STEP}
use Rattle.half_sums.specs.Blocks.{cosine_at}
use Rattle.number_transform.proofs.Congruences.{same_mod}
use Rattle.number_transform.proofs.Totals.{total_same}
use Rattle.half_sums.specs.declared.places.Place.{Place}
use Rattle.half_sums.specs.Places.{signed, IsNear, IsSumPlace, sum_index, sum_step}
use Rattle.model_synthesis.proofs.Waves.{wave_rest}
use Rattle.half_sums.proofs.IntSums.{sum_same}
use Rattle.half_sums.proofs.Correlation.{plain_residue}
use Rattle.model_synthesis.proofs.Sums.{*ℤ-neg_ℤ, sum_below-neg}
use Rattle.half_sums.proofs.Reached.{reached}
use Rattle.half_sums.proofs.PlaceLaws.{sum_index_below, sum_index_above, sum_step_front, sum_step_back}

pub inverse_steps : (levels : ℕ) → levels ≤ 12 → BIN_STEP * SUM_STEP ≡ 1 + 3 * 2 ^ (12 - levels) * (4 * (2 * 2 ^ levels))
inverse_steps levels few =
    let all : 12 - levels + levels ≡ 12 = omega arith in
    let whole : 2 ^ (12 - levels) * 2 ^ levels ≡ 4096 = sym (pow-add 2 (12 - levels) levels) ∙ ap (λ k. 2 ^ k) all in
    omega arith

pub sum_residue : (levels : ℕ) (table : List ℕ) (line : ℕ → ℤ) (values : ℕ → ℕ) → levels ≤ 12 → 0 < levels
    → ((b : ℕ) → b < 2 ^ levels → values b ≡ residue_of (wave (2 * 2 ^ levels) (λ u. line (u / 2)) (BIN_STEP ^ b)))
    → (a : ℕ) → a < 2 ^ levels
    → product (PRIME - 1) (2 ^ levels) values (λ k. residue_of (cosine_at table (2 * 2 ^ levels) (SUM_STEP ^ k))) a % PRIME
    ≡ residue_of (sum_below (2 ^ levels) (λ k. line k *ℤ cosine_at table (2 * 2 ^ levels) (SUM_STEP ^ a * (2 * k + 1))))
sum_residue zero table line values few some gathered a ha = absurd (omega arith)
sum_residue (suc s) table line values few some gathered a ha =
    let n : ℕ = 2 ^ suc s in
    let first : ℕ → ℤ = first_quarter table (2 * n) in
    let cosines : ℕ → ℕ = λ k. residue_of (wave (2 * n) first (SUM_STEP ^ k)) in
    let lines : ℕ → ℕ = λ b. residue_of (wave (2 * n) (λ u. line (u / 2)) (BIN_STEP ^ b)) in
    ap (λ x. x % PRIME) (total_same n (λ i. values i * shifted (PRIME - 1) n cosines i a) (λ i. lines i * shifted (PRIME - 1) n cosines i a) (λ i below. ap (λ x. x * shifted (PRIME - 1) n cosines i a) (gathered i below)))
    ∙ sym (plain_residue first s BIN_STEP SUM_STEP (3 * 2 ^ (12 - suc s)) 2457 (inverse_steps (suc s) few) refl refl line 0 a refl ha)

-- the sum that goes by a step is, up to its sign, that at the place of the step
sum_signed : (negative : Bool) (n : ℕ) (line x y : ℕ → ℤ) → ((k : ℕ) → x k ≡ signed negative (y k)) → signed negative (sum_below n (λ k. line k *ℤ y k)) ≡ sum_below n (λ k. line k *ℤ x k)
sum_signed true n line x y h = sym (sum_same n (λ k. line k *ℤ x k) (λ k. neg_ℤ (line k *ℤ y k)) (λ k below. ap (λ v. line k *ℤ v) (h k) ∙ *ℤ-neg_ℤ (line k) (y k)) ∙ sum_below-neg n (λ k. line k *ℤ y k))
sum_signed false n line x y h = sym (sum_same n (λ k. line k *ℤ x k) (λ k. line k *ℤ y k) (λ k below. ap (λ v. line k *ℤ v) (h k)))

pub sum_at_place : (size n : ℕ) (first line : ℕ → ℤ) (power : ℕ) (p : Place) → IsSumPlace size (power % (4 * size)) p
    → signed p.negative (sum_below n (λ k. line k *ℤ wave size first (power * (2 * k + 1)))) ≡ sum_below n (λ k. line k *ℤ wave size first (sum_step size p.index * (2 * k + 1)))
sum_at_place size n first line power p is =
    sum_signed p.negative n line (λ k. wave size first (sum_step size p.index * (2 * k + 1))) (λ k. wave size first (power * (2 * k + 1)))
    (λ k. is.same first (2 * k + 1) (let odd : (2 * k + 1) % 2 ≡ 1 = omega arith in odd)
    ∙ ap (signed p.negative) (sym (wave_rest size first (power % (4 * size) * (2 * k + 1))) ∙ (ap (wave size first) (mul-mod_first power (2 * k + 1) (4 * size)) ∙ wave_rest size first (power * (2 * k + 1)))))

-- how near the step of a half sum is to a half turn
near_steps : (m j r : ℕ) → j < 2 * m → (r ≡ sum_step (4 * m) j) ⊎ (r + sum_step (4 * m) j ≡ 8 * m) → (near : ℕ) × (near < 4 * m) × ((near ≡ r) ⊎ (near + r ≡ 8 * m)) × (sum_index (4 * m) near ≡ j)
near_steps m j r h e = elim (cases_lt j m) [
  | inl front ↦
      let step : sum_step (4 * m) j ≡ 2 * j + 1 + 4 * m / 2 = sum_step_front (4 * m) j (omega arith) in
      let near : ℕ = 2 * j + 1 + 2 * m in (
        near,
        omega arith,
        elim e [ inl same ↦ inl (omega arith) | inr other ↦ inr (omega arith) ],
        sum_index_above (4 * m) near (omega arith) ∙ omega arith,
      )
  | inr back ↦
      let step : sum_step (4 * m) j ≡ 2 * (j + 4 * m / 4) + 1 + 4 * m / 2 = sum_step_back (4 * m) j (omega arith) in
      let near : ℕ = 4 * m - 1 - 2 * j in (
        near,
        omega arith,
        elim e [ inl same ↦ inr (omega arith) | inr other ↦ inl (omega arith) ],
        sum_index_below (4 * m) near (omega arith) ∙ omega arith,
      )
]

rest_of_rest : (x m : ℕ) → (x % (2 * m)) % m ≡ x % m
rest_of_rest x m =
    let whole : x / (2 * m) * (2 * m) + x % (2 * m) ≡ x = div-add-mod' x (2 * m) in
    same_mod m (x % (2 * m)) x (2 * (x / (2 * m))) 0 (omega arith)

-- a power that is a given step, or its opposite, modulo half a turn
power_at : (n step : ℕ) (s : ℕ) → 2 ^ suc s ≡ n → step % 2 ≡ 1 → step < 4 * n → (a : ℕ) × (a < 2 ^ suc s) × (((SUM_STEP ^ a) % (4 * n) ≡ step) ⊎ ((SUM_STEP ^ a) % (4 * n) + step ≡ 4 * n))
power_at n step s e odd h = elim (cases_eq (step % 4) 1) [
  | inl one ↦
      let found = reached SUM_STEP 2457 (suc s) step refl one in
      let short : step < 4 * n = h in
      (found.0, found.1, inl (ap (λ k. (SUM_STEP ^ found.0) % (4 * k)) (sym e) ∙ (found.2 ∙ (ap (λ k. step % (4 * k)) e ∙ mod-eq_of_lt short))))
  | inr other ↦
      let mirror : ℕ = 4 * n - step in
      let short : mirror < 4 * n = omega arith in
      let found = reached SUM_STEP 2457 (suc s) mirror refl (omega arith) in
      let rest : (SUM_STEP ^ found.0) % (4 * n) ≡ mirror = ap (λ k. (SUM_STEP ^ found.0) % (4 * k)) (sym e) ∙ (found.2 ∙ (ap (λ k. mirror % (4 * k)) e ∙ mod-eq_of_lt short)) in
      (found.0, found.1, inr (omega arith))
]

-- each half sum is at some power
pub place_of : (levels j : ℕ) → levels ≤ 12 → 0 < levels → j < 2 ^ levels → (a : ℕ) × (a < 2 ^ levels) × ((p : Place) → IsSumPlace (2 * 2 ^ levels) ((SUM_STEP ^ a) % (4 * (2 * 2 ^ levels))) p → p.index ≡ j)
place_of zero j few some h = absurd (omega arith)
place_of (suc s) j few some h =
    let m : ℕ = 2 ^ s in
    let n : ℕ = 2 ^ suc s in
    let two : 2 ^ suc s ≡ 2 ^ s + 2 ^ s = omega (arith, pow-suc 2 s) in
    let size : 2 * n ≡ 4 * m = omega arith in
    let turn : 4 * n ≡ 8 * m = omega arith in
    let bounds : (sum_step (4 * m) j % 2 ≡ 1) × (sum_step (4 * m) j < 4 * n) = step_bounds m j n two h in
    let found = power_at n (sum_step (4 * m) j) s refl bounds.0 bounds.1 in
    let r : ℕ = (SUM_STEP ^ found.0) % (4 * n) in
    let near = near_steps m j r (omega arith) (subst (λ t. (r ≡ sum_step (4 * m) j) ⊎ (r + sum_step (4 * m) j ≡ t)) turn found.2) in (
      found.0,
      found.1,
      λ p is.
          let width : 2 * (2 * n) ≡ 4 * n = omega arith in
          let double : 4 * (2 * n) ≡ 2 * (4 * n) = omega arith in
          let rest : (SUM_STEP ^ found.0) % (4 * (2 * n)) % (2 * (2 * n)) ≡ r =
          ap (λ t. (SUM_STEP ^ found.0) % (4 * (2 * n)) % t) width ∙ (ap (λ t. (SUM_STEP ^ found.0) % t % (4 * n)) double ∙ rest_of_rest (SUM_STEP ^ found.0) (4 * n)) in
          let is_near : IsNear (2 * n) ((SUM_STEP ^ found.0) % (4 * (2 * n))) near.0 = elim near.2 [ inl same ↦ inl (same ∙ sym rest) | inr other ↦ inr (omega arith) ] in
          let below : near.0 < 2 * n = omega arith in
          is.index near.0 below is_near ∙ (ap (λ t. sum_index t near.0) size ∙ near.3),
    )
  where
    step_bounds : (m j n : ℕ) → n ≡ m + m → j < n → (sum_step (4 * m) j % 2 ≡ 1) × (sum_step (4 * m) j < 4 * n)
    step_bounds m j n e h = elim (cases_lt j m) [
      | inl front ↦ let step : sum_step (4 * m) j ≡ 2 * j + 1 + 4 * m / 2 = sum_step_front (4 * m) j (omega arith) in (omega arith, omega arith)
      | inr back ↦ let step : sum_step (4 * m) j ≡ 2 * (j + 4 * m / 4) + 1 + 4 * m / 2 = sum_step_back (4 * m) j (omega arith) in (omega arith, omega arith)
    ]
