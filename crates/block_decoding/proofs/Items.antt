-- Items of lists by their places.
use Rattle.std.proofs.Common.{◌≡◌, ℕ, zero, suc, ◌+◌, ◌<◌, List, [], ◌∷◌, ◌++◌, length, get_or, refl, ap, ◌∙◌, arith, Bool, true, false, cond}
use Rattle.std.proofs.lemmas.List.{append-nil}
use Rattle.std.proofs.lemmas.List.Elements.{filter-append}
use Rattle.std.specs.List.{range_with_len, filter}

-- where an item is there, what stands for a missing one is of no account
pub same_item : {X : Type 0} (xs : List X) (i : ℕ) (d e : X) → i < length xs → get_or xs i d ≡ get_or xs i e
same_item [] i d e lt = absurd (omega (arith, lt))
same_item (x ∷ xs) zero d e lt = refl
same_item (x ∷ xs) (suc i) d e lt = same_item xs i d e (omega (arith, lt))

range_on : (a k : ℕ) → range_with_len a (k + 1) ≡ range_with_len a k ++ (a + k) ∷ []
range_on a zero = let e : a + 0 ≡ a = omega arith in rw e refl
range_on a (suc k) =
    let e : a + 1 + k ≡ a + suc k = omega arith in
    let s : suc k + 1 ≡ suc (k + 1) = omega arith in
    ap (range_with_len a) s ∙ (ap (λ (xs : List ℕ). a ∷ xs) (range_on (a + 1) k) ∙ ap (λ (j : ℕ). range_with_len a (suc k) ++ j ∷ []) e)

pub range_more : (k : ℕ) → range_with_len 0 (k + 1) ≡ range_with_len 0 k ++ k ∷ []
range_more k = let e : 0 + k ≡ k = omega arith in range_on 0 k ∙ ap (λ (j : ℕ). range_with_len 0 k ++ j ∷ []) e

or_not : (b : Bool) (xs : List ℕ) (k : ℕ) → xs ++ cond b (k ∷ []) [] ≡ cond b (xs ++ k ∷ []) xs
or_not true xs k = refl
or_not false xs k = append-nil xs

-- the numbers below the next that pass a test
pub filter_more : (p : ℕ → Bool) (k : ℕ) → filter p (range_with_len 0 (k + 1)) ≡ cond (p k) (filter p (range_with_len 0 k) ++ k ∷ []) (filter p (range_with_len 0 k))
filter_more p k = ap (filter p) (range_more k) ∙ (filter-append p (range_with_len 0 k) (k ∷ []) ∙ or_not (p k) (filter p (range_with_len 0 k)) k)
