-- The first number of a range that passes a test.
use Rattle.std.proofs.Common.{◌≡◌, ℕ, zero, suc, ◌+◌, ◌-◌, ◌<◌, ◌≤◌, ◌∙◌, sym, ap, Bool, true, false, ◌∷◌, Some, None, inl, inr, arith}
use Rattle.std.specs.List.{range_with_len, find}
use Rattle.std.proofs.lemmas.Bool.{cases_Bool, cond-true, cond-false}

-- of numbers of which some are left, the first stands in front
pub range_goes_on : (i n : ℕ) → i < n → range_with_len i (n - i) ≡ i ∷ range_with_len (i + 1) (n - (i + 1))
range_goes_on i n h =
    let more : n - i ≡ suc (n - (i + 1)) = omega arith in
    ap (range_with_len i) more

pub find_on : (p : ℕ → Bool) (i n : ℕ) → i < n → p i ≡ false → find p (range_with_len (i + 1) (n - (i + 1))) ≡ find p (range_with_len i (n - i))
find_on p i n h fails = sym (ap (find p) (range_goes_on i n h) ∙ cond-false _ _ _ fails)

pub find_here : (p : ℕ → Bool) (i n : ℕ) → i < n → p i ≡ true → find p (range_with_len i (n - i)) ≡ Some i
find_here p i n h passes = ap (find p) (range_goes_on i n h) ∙ cond-true _ _ _ passes

pub find_end : (p : ℕ → Bool) (i n : ℕ) → n ≤ i → find p (range_with_len i (n - i)) ≡ None
find_end p i n h =
    let none : n - i ≡ 0 = omega arith in
    ap (λ count. find p (range_with_len i count)) none

-- where no number is found, none passes
pub none_passes : (p : ℕ → Bool) (n a i : ℕ) → find p (range_with_len a n) ≡ None → i < n → p (a + i) ≡ false
none_passes p zero a i none h = absurd (omega arith)
none_passes p (suc n) a zero none h = elim (cases_Bool (p a)) [
  | inl passes ↦ absurd (let found : find p (range_with_len a (suc n)) ≡ Some a = cond-true _ _ _ passes in cc)
  | inr fails ↦ let place : a + 0 ≡ a = omega arith in ap p place ∙ fails
]
none_passes p (suc n) a (suc i) none h = elim (cases_Bool (p a)) [
  | inl passes ↦ absurd (let found : find p (range_with_len a (suc n)) ≡ Some a = cond-true _ _ _ passes in cc)
  | inr fails ↦
      let rest : find p (range_with_len (a + 1) n) ≡ None = sym (cond-false _ _ _ fails) ∙ none in
      let place : a + suc i ≡ a + 1 + i = omega arith in
      ap p place ∙ none_passes p n (a + 1) i rest (omega arith)
]
