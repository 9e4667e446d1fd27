-- The first digits of a class word, the lowest of them written first, to the last place.
use Rattle.std.proofs.Common.{◌≡◌, ℕ, ◌+◌, ◌-◌, ◌/◌, ◌%◌, ◌^◌, ◌<◌, ◌≤◌, ◌≢◌, min, inl, inr, List, length, get_or, set, ap, sym, ◌∙◌, arith, get_or-set_other, get_or-set_same}
use Rattle.std.proofs.lemmas.Bool.{cases_eq, cases_lt}
use Rattle.std.proofs.Math.Nat.{div-eq_of_lt}

-- a power past the greatest number divides a small word as that number does
pub saturated : (word power most : ℕ) → word < most → word / min power most ≡ word / power
saturated word power most small = elim (cases_lt power most) [
  | inl less ↦ let same : min power most ≡ power = omega arith in ap (λ n. word / n) same
  | inr more ↦
      let same : min power most ≡ most = omega arith in
      let past : word < power = omega arith in
      ap (λ n. word / n) same ∙ div-eq_of_lt small ∙ sym (div-eq_of_lt past)
]

pub digits_more : (classes : List ℕ) (classwords count k word base rest : ℕ) → length classes ≡ count → count ≤ classwords → k < count → rest ≡ word / base ^ (classwords - count + k)
    → ((j : ℕ) → j < count → count - k ≤ j → get_or classes j 0 ≡ word / base ^ (classwords - 1 - j) % base)
    → (j : ℕ) → j < count → count - (k + 1) ≤ j → get_or (set classes (count - 1 - k) (rest % base)) j 0 ≡ word / base ^ (classwords - 1 - j) % base
digits_more classes classwords count k word base rest many room lt digits before j below from =
    elim (cases_eq j (count - 1 - k)) [
      | inl same ↦
          let within : count - 1 - k < length classes = omega arith in
          let back : classwords - count + k ≡ classwords - 1 - (count - 1 - k) = omega arith in
          rw same (get_or-set_same classes (count - 1 - k) (rest % base) 0 within ∙ ap (λ n. n % base) digits ∙ ap (λ n. word / base ^ n % base) back)
      | inr other ↦
          let ne : j ≢ count - 1 - k = other in
          let past : count - k ≤ j = omega arith in
          get_or-set_other classes (count - 1 - k) j (rest % base) 0 ne ∙ before j below past
    ]
