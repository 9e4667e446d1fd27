-- From half of the sums of a block to all its values.
use Rattle.std.proofs.Common.{◌≡◌, ◌⊎◌, ℕ, zero, suc, ◌+◌, ◌-◌, ◌*◌, ◌/◌, ◌^◌, ◌<◌, ◌≤◌, ◌∙◌, sym, refl, ap, subst, inl, inr, List, length, get_or, set, ℤ, pos, negsuc, neg_ℤ, unsigned_abs, length-set, arith}
use Rattle.std.specs.List.{All}
use Rattle.std.proofs.lemmas.Bool.{cases_lt, lt-ltb, le-ltb, cond-true, cond-false}
use Rattle.std.proofs.Math.Nat.{pow-le-pow_right}
use Rattle.std.proofs.lemmas.List.{get_or_past}
use Rattle.std.proofs.lemmas.List.FromFn.{fill_by_all, length-map-range_with_len, get_or-map-range_with_len}
use Rattle.model_fixed.specs.Fixed.{shift_down}
use Rattle.model_setup.specs.HeaderPackets.{IsBlockSize}
use Rattle.model_synthesis.specs.Tables.{ConstantTables}
use Rattle.model_synthesis.specs.Transform.{IsBlockValue, sum_at, transformed}
use Rattle.model_synthesis.proofs.BlockSizes.{block_size_in_quarters}
use Rattle.model_synthesis.proofs.Halves.{second_of_first, fourth_of_third}
use Rattle.half_sums.specs.HalfSums.{IsSum, half_place, half_sums}
use Rattle.half_sums.proofs.Filled.{set_target}
use Rattle.fixed_synthesis.specs.Unfolding.{unfolded_sum, unfolded}
use Rattle.fixed_synthesis.proofs.Values.{quotient_small}

pub most_bins : (count : ℕ) → IsBlockSize (2 * count) → count ≤ 4096
most_bins count is =
    let power : 2 * count ≡ 2 ^ is.exponent = is.is_power in
    let most : is.exponent ≤ 13 = is.at_most_8192 in
    let small : 2 ^ is.exponent ≤ 2 ^ 13 = pow-le-pow_right {n = 2} (omega arith) most in
    omega arith

-- ---- where the sum for a value stands

module _ (size q : ℕ) (sums : List ℤ) (i : ℕ) (whole : size ≡ 4 * q) where
  pub first_sum : i < q → unfolded_sum size sums i ≡ get_or sums i (pos 0)
  first_sum h = cond-true _ _ _ (lt-ltb i (size / 4) (omega arith))

  pub second_sum : (j : ℕ) → i + j + 1 ≡ 2 * q → j < q → unfolded_sum size sums i ≡ neg_ℤ (get_or sums j (pos 0))
  second_sum j e h =
      let place : size / 2 - 1 - i ≡ j = omega arith in
      cond-false _ _ _ (le-ltb i (size / 4) (omega arith))
      ∙ (cond-true _ _ _ (lt-ltb i (size / 2) (omega arith)) ∙ ap (λ p. neg_ℤ (get_or sums p (pos 0))) place)

  pub third_sum : (j : ℕ) → i ≡ j + q → q ≤ j → j < 2 * q → unfolded_sum size sums i ≡ get_or sums j (pos 0)
  third_sum j e low high =
      let place : i - size / 4 ≡ j = omega arith in
      cond-false _ _ _ (le-ltb i (size / 4) (omega arith))
      ∙ (cond-false _ _ _ (le-ltb i (size / 2) (omega arith))
      ∙ (cond-true _ _ _ (lt-ltb i (3 * (size / 4)) (omega arith)) ∙ ap (λ p. get_or sums p (pos 0)) place))

  pub fourth_sum : (j : ℕ) → i + j + 1 ≡ 5 * q → q ≤ j → j < 2 * q → unfolded_sum size sums i ≡ get_or sums j (pos 0)
  fourth_sum j e low high =
      let place : 5 * (size / 4) - 1 - i ≡ j = omega arith in
      cond-false _ _ _ (le-ltb i (size / 4) (omega arith))
      ∙ (cond-false _ _ _ (le-ltb i (size / 2) (omega arith))
      ∙ (cond-false _ _ _ (le-ltb i (3 * (size / 4)) (omega arith)) ∙ ap (λ p. get_or sums p (pos 0)) place))

-- ---- four values at a time

-- which values are written once j of each quarter are
abbrev pub IsWritten : ℕ → ℕ → ℕ → Type 0
IsWritten q j i =
    (i < j) ⊎ (((2 * q ≤ i + j) × (i < 2 * q + j)) ⊎ ((4 * q ≤ i + j) × (i < 4 * q)))

pub all_written : (q i : ℕ) → i < 4 * q → IsWritten q q i
all_written q i h = elim (cases_lt i q) [
  | inl low ↦ inl low
  | inr high ↦ elim (cases_lt i (3 * q)) [
    | inl low ↦ inr (inl (omega arith, omega arith))
    | inr last ↦ inr (inr (omega arith, h))
  ]
]

pub four_written : (f : ℕ → ℤ) (out : List ℤ) (q j : ℕ) (a b c d : ℤ) → length out ≡ 4 * q → j < q
    → a ≡ f j → b ≡ f (2 * q - 1 - j) → c ≡ f (2 * q + j) → d ≡ f (4 * q - 1 - j)
    → ((i : ℕ) → IsWritten q j i → get_or out i (pos 0) ≡ f i)
    → (i : ℕ) → IsWritten q (j + 1) i → get_or (set (set (set (set out j a) (2 * q - 1 - j) b) (2 * q + j) c) (4 * q - 1 - j) d) i (pos 0) ≡ f i
four_written f out q j a b c d size h ea eb ec ed before i written =
    let one : List ℤ = set out j a in
    let two : List ℤ = set one (2 * q - 1 - j) b in
    let three : List ℤ = set two (2 * q + j) c in
    let long_one : length one ≡ length out = length-set out j a in
    let long_two : length two ≡ length one = length-set one (2 * q - 1 - j) b in
    let long_three : length three ≡ length two = length-set two (2 * q + j) c in
    set_target three (4 * q - 1 - j) d f i (omega arith) ed (λ other_d.
    set_target two (2 * q + j) c f i (omega arith) ec (λ other_c.
    set_target one (2 * q - 1 - j) b f i (omega arith) eb (λ other_b.
    set_target out j a f i (omega arith) ea (λ other_a.
    before i (elim written [
      | inl low ↦ inl (omega arith)
      | inr (inl middle) ↦ inr (inl (omega arith, omega arith))
      | inr (inr high) ↦ inr (inr (omega arith, high.1))
    ])))))

-- ---- from the half sums of a spectrum

module _ (tables : ConstantTables) (spectrum : List ℤ) (is : IsBlockSize (2 * length spectrum)) where
  half_at : (j : ℕ) → j < 2 * length spectrum / 2 → get_or (half_sums tables (2 * length spectrum) spectrum) j (pos 0) ≡ sum_at tables (2 * length spectrum) spectrum (half_place (2 * length spectrum) j)
  unfolding half_sums
  half_at j h =
      get_or-map-range_with_len (λ j. sum_at tables (2 * length spectrum) spectrum (half_place (2 * length spectrum) j)) 0 (2 * length spectrum / 2) j j (pos 0) h (omega arith)

  length-half_sums : length (half_sums tables (2 * length spectrum) spectrum) ≡ length spectrum
  unfolding half_sums
  length-half_sums =
      length-map-range_with_len (λ j. sum_at tables (2 * length spectrum) spectrum (half_place (2 * length spectrum) j)) 0 (2 * length spectrum / 2) ∙ omega arith

  front_at : (q j : ℕ) → 2 * length spectrum ≡ 4 * q → j < q → get_or (half_sums tables (2 * length spectrum) spectrum) j (pos 0) ≡ sum_at tables (2 * length spectrum) spectrum j
  front_at q j whole h =
      half_at j (omega arith)
      ∙ ap (sum_at tables (2 * length spectrum) spectrum) (cond-true _ _ _ (lt-ltb j (2 * length spectrum / 4) (omega arith)))

  back_at : (q j i : ℕ) → 2 * length spectrum ≡ 4 * q → q ≤ j → j < 2 * q → i ≡ j + q → get_or (half_sums tables (2 * length spectrum) spectrum) j (pos 0) ≡ sum_at tables (2 * length spectrum) spectrum i
  back_at q j i whole low high e =
      half_at j (omega arith)
      ∙ ap (sum_at tables (2 * length spectrum) spectrum) (cond-false _ _ _ (le-ltb j (2 * length spectrum / 4) (omega arith)) ∙ omega arith)

  all_sums : (i : ℕ) → i < 2 * length spectrum → unfolded_sum (2 * length spectrum) (half_sums tables (2 * length spectrum) spectrum) i ≡ sum_at tables (2 * length spectrum) spectrum i
  all_sums i h =
      let q : ℕ = (block_size_in_quarters (2 * length spectrum) is).0 in
      let whole : 2 * length spectrum ≡ 4 * q = (block_size_in_quarters (2 * length spectrum) is).1 in
      let sums : List ℤ = half_sums tables (2 * length spectrum) spectrum in
      elim (cases_lt i q) [
        | inl low ↦ first_sum (2 * length spectrum) q sums i whole low ∙ front_at q i whole low
        | inr second ↦ elim (cases_lt i (2 * q)) [
          | inl low ↦
              let j : ℕ = 2 * q - 1 - i in
              second_sum (2 * length spectrum) q sums i whole j (omega arith) (omega arith)
              ∙ (ap neg_ℤ (front_at q j whole (omega arith))
              ∙ sym (second_of_first tables (2 * length spectrum) spectrum j i is (omega arith)))
          | inr third ↦ elim (cases_lt i (3 * q)) [
            | inl low ↦
                let j : ℕ = i - q in
                third_sum (2 * length spectrum) q sums i whole j (omega arith) (omega arith) (omega arith)
                ∙ back_at q j i whole (omega arith) (omega arith) (omega arith)
            | inr fourth ↦
                let j : ℕ = 5 * q - 1 - i in
                fourth_sum (2 * length spectrum) q sums i whole j (omega arith) (omega arith) (omega arith)
                ∙ (back_at q j (j + q) whole (omega arith) (omega arith) refl
                ∙ sym (fourth_of_third tables (2 * length spectrum) spectrum (j + q) i is (omega arith)))
          ]
        ]
      ]

  pub unfolded_transforms : unfolded (half_sums tables (2 * length spectrum) spectrum) tables.scale ≡ transformed tables spectrum
  unfolding unfolded transformed
  unfolded_transforms =
      let sums : List ℤ = half_sums tables (2 * length spectrum) spectrum in
      let count : length (half_sums tables (2 * length spectrum) spectrum) ≡ length spectrum = length-half_sums in
      let f : ℕ → ℤ = λ i. shift_down (unfolded_sum (2 * length sums) sums i) tables.scale in
      fill_by_all (λ i. shift_down (sum_at tables (2 * length spectrum) spectrum i) tables.scale) (unfolded sums tables.scale) (2 * length spectrum) (pos 0)
      (length-map-range_with_len f 0 (2 * length sums) ∙ ap (λ n. 2 * n) count)
      (λ i h.
      get_or-map-range_with_len f 0 (2 * length sums) i i (pos 0) (omega arith) (omega arith)
      ∙ (ap (λ n. shift_down (unfolded_sum (2 * n) sums i) tables.scale) count
      ∙ ap (λ z. shift_down z tables.scale) (all_sums i h)))

-- ---- how large the values are

abs-neg : (z : ℤ) → unsigned_abs (neg_ℤ z) ≡ unsigned_abs z
abs-neg (pos zero) = refl
abs-neg (pos (suc n)) = refl
abs-neg (negsuc n) = refl

pub sum_small : (sums : List ℤ) → All IsSum sums → (k : ℕ) → IsSum (get_or sums k (pos 0))
sum_small sums small k = elim (cases_lt k (length sums)) [
  | inl within ↦ small k (pos 0) within
  | inr past ↦ subst IsSum (sym (get_or_past sums k (pos 0) past)) (omega arith)
]

unfolded_sum_small : (size : ℕ) (sums : List ℤ) (i : ℕ) → ((k : ℕ) → IsSum (get_or sums k (pos 0))) → IsSum (unfolded_sum size sums i)
unfolded_sum_small size sums i small = elim (cases_lt i (size / 4)) [
  | inl low ↦ at (get_or sums i (pos 0)) (small i) (cond-true _ _ _ (lt-ltb i (size / 4) low))
  | inr second ↦ elim (cases_lt i (size / 2)) [
    | inl low ↦
        let z : ℤ = get_or sums (size / 2 - 1 - i) (pos 0) in
        at (neg_ℤ z) (rw abs-neg (small (size / 2 - 1 - i)))
        (cond-false _ _ _ (le-ltb i (size / 4) second) ∙ cond-true _ _ _ (lt-ltb i (size / 2) low))
    | inr third ↦ elim (cases_lt i (3 * (size / 4))) [
      | inl low ↦ at (get_or sums (i - size / 4) (pos 0)) (small (i - size / 4))
          (cond-false _ _ _ (le-ltb i (size / 4) second) ∙ (cond-false _ _ _ (le-ltb i (size / 2) third) ∙ cond-true _ _ _ (lt-ltb i (3 * (size / 4)) low)))
      | inr fourth ↦ at (get_or sums (5 * (size / 4) - 1 - i) (pos 0)) (small (5 * (size / 4) - 1 - i))
          (cond-false _ _ _ (le-ltb i (size / 4) second) ∙ (cond-false _ _ _ (le-ltb i (size / 2) third) ∙ cond-false _ _ _ (le-ltb i (3 * (size / 4)) fourth)))
    ]
  ]
]
  where
    at : {x : ℤ} (z : ℤ) → IsSum z → x ≡ z → IsSum x
    at z h e = subst IsSum (sym e) h

pub unfolded_small : (sums : List ℤ) → All IsSum sums → All IsBlockValue (unfolded sums 23)
unfolding unfolded
unfolded_small sums small i d below =
    let f : ℕ → ℤ = λ i. shift_down (unfolded_sum (2 * length sums) sums i) 23 in
    let count : length (unfolded sums 23) ≡ 2 * length sums = length-map-range_with_len f 0 (2 * length sums) in
    let most : IsSum (unfolded_sum (2 * length sums) sums i) = unfolded_sum_small (2 * length sums) sums i (sum_small sums small) in
    subst IsBlockValue (sym (get_or-map-range_with_len f 0 (2 * length sums) i i d (omega arith) (omega arith)))
    (quotient_small (unfolded_sum (2 * length sums) sums i) (2 ^ 39) 23 (omega (arith, most)))
