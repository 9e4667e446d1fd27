-- The first that is there, of what a function gives at the places of a range.
use Rattle.std.proofs.Common.{◌≡◌, ℕ, zero, suc, ◌+◌, ◌<◌, List, ◌∷◌, map, Option, Some, None, refl, sym, ap, ◌∙◌, arith}
use Rattle.std.specs.List.{range_with_len}
use Rattle.model_script.specs.Lines.{first_some}

after_none : {A : Type 0} (x : Option A) (xs : List (Option A)) → x ≡ None → first_some (x ∷ xs) ≡ first_some xs
after_none None xs e = refl
after_none (Some x) xs e = cc

at_some : {A : Type 0} (x : Option A) (xs : List (Option A)) (y : A) → x ≡ Some y → first_some (x ∷ xs) ≡ Some y
at_some None xs y e = cc
at_some (Some x) xs y e = e

-- where the function gives nothing before a place, and something there
pub first_at : {A : Type 0} (f : ℕ → Option A) (a n i : ℕ) (y : A) → i < n → ((k : ℕ) → k < i → f (a + k) ≡ None) → f (a + i) ≡ Some y → first_some (map f (range_with_len a n)) ≡ Some y
first_at f a zero i y h before here = absurd (omega arith)
first_at f a (suc n) zero y h before here =
    let place : a + 0 ≡ a = omega arith in
    at_some (f a) (map f (range_with_len (a + 1) n)) y (sym (ap f place) ∙ here)
first_at f a (suc n) (suc i) y h before here =
    let first : a + 0 ≡ a = omega arith in
    let place : a + 1 + i ≡ a + suc i = omega arith in
    after_none (f a) (map f (range_with_len (a + 1) n)) (sym (ap f first) ∙ before 0 (omega arith))
    ∙ first_at f (a + 1) n i y (omega arith)
    (λ k l. let next : a + 1 + k ≡ a + suc k = omega arith in ap f next ∙ before (suc k) (omega arith))
    (ap f place ∙ here)

-- where the function gives nothing
pub none_first : {A : Type 0} (f : ℕ → Option A) (a n : ℕ) → ((k : ℕ) → k < n → f (a + k) ≡ None) → first_some (map f (range_with_len a n)) ≡ None
none_first f a zero none = refl
none_first f a (suc n) none =
    let first : a + 0 ≡ a = omega arith in
    after_none (f a) (map f (range_with_len (a + 1) n)) (sym (ap f first) ∙ none 0 (omega arith))
    ∙ none_first f (a + 1) n
    (λ k l. let next : a + 1 + k ≡ a + suc k = omega arith in ap f next ∙ none (suc k) (omega arith))
