-- The parts of a list, by the first place at which it is split.
use Rattle.std.proofs.Common.{◌≡◌, ℕ, zero, suc, ◌+◌, ◌<◌, Bool, true, false, List, [], ◌∷◌, length, get_or, map, Option, Some, None, take, drop, slice_index, ◌-◌, refl, inl, inr, ap, ◌∙◌, arith, length-drop}
use Rattle.std.specs.Iterator.{Yields}
use Rattle.std.specs.List.{slice_split, onto_first}
use Rattle.std.proofs.lemmas.Iterator.{YieldsList}
use Rattle.std.proofs.lemmas.Iterator.Consumers.{YieldsList-turn, YieldsList-end}
use Rattle.std.proofs.lemmas.Bool.{cases_Bool}
use Rattle.std.proofs.lemmas.List.{take_all}
use Rattle.std.proofs.lemmas.List.Splits.{slice_split-cons_yes, slice_split-cons_no}

-- nothing passes before a place, and what stands there does
pub split_at : (p : ℕ → Bool) (xs : List ℕ) (k : ℕ) → k < length xs → ((i : ℕ) → i < k → p (slice_index xs i) ≡ false) → p (slice_index xs k) ≡ true → slice_split p xs ≡ take k xs ∷ slice_split p (drop (k + 1) xs)
split_at p [] k h before here = absurd (omega arith)
split_at p (x ∷ xs) zero h before here = slice_split-cons_yes p x xs here
split_at p (x ∷ xs) (suc k) h before here =
    let next : suc k + 1 ≡ suc (k + 1) = omega arith in
    slice_split-cons_no p x xs (before 0 (omega arith))
    ∙ ap (onto_first x) (split_at p xs k (omega arith) (λ i l. before (suc i) (omega arith)) here)
    ∙ ap (λ n. (x ∷ take k xs) ∷ slice_split p (drop n (x ∷ xs))) (let back : suc (k + 1) ≡ suc k + 1 = omega arith in back)

-- nothing passes
pub split_nowhere : (p : ℕ → Bool) (xs : List ℕ) → ((i : ℕ) → i < length xs → p (slice_index xs i) ≡ false) → slice_split p xs ≡ xs ∷ []
split_nowhere p [] none = refl
split_nowhere p (x ∷ xs) none =
    slice_split-cons_no p x xs (none 0 (omega arith))
    ∙ ap (onto_first x) (split_nowhere p xs (λ i l. none (suc i) (omega arith)))

pub not_true : (b : Bool) → ¬ (b ≡ true) → b ≡ false
not_true b h = elim (cases_Bool b) [ inl holds ↦ absurd (h holds) | inr fails ↦ fails ]

-- all that is left behind a place
pub whole_rest : (xs : List ℕ) (n : ℕ) → take (length xs - n) (drop n xs) ≡ drop n xs
whole_rest xs n = take_all (length xs - n) (drop n xs) (omega (arith, length-drop n xs))

-- the item in turn, and all items at the end, of an iterator that is known by what it gave so far
pub turn_of : {S A B : Type 0} {steps : S → Option A → S → Type 0} {v : A → B} {s : S} {all : List B} (xs : List A) (t : S) → Yields steps s xs t → YieldsList steps v s all → (r : Option A) (u : S) (x : A) → r ≡ Some x → steps t r u → (length xs < length all) × (v x ≡ get_or all (length xs) (v x))
turn_of xs t y e r u x is st = YieldsList-turn e xs t y r u x is st

pub end_of : {S A B : Type 0} {steps : S → Option A → S → Type 0} {v : A → B} {s : S} {all : List B} (xs : List A) (t : S) → Yields steps s xs t → YieldsList steps v s all → (r : Option A) (u : S) → r ≡ None → steps t r u → (map v xs ≡ all) × (length xs ≡ length all)
end_of xs t y e r u is st = YieldsList-end e xs t y r u is st
