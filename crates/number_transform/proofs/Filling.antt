-- A loop that writes a value at each place in turn.
use Rattle.std.proofs.Common.{◌≡◌, ◌≢◌, ℕ, zero, suc, ◌+◌, ◌%◌, ◌<◌, ◌≤◌, List, [], ◌∷◌, ◌++◌, length, get_or, set, take, drop, ◌∙◌, sym, subst, arith}
use Rattle.std.proofs.lemmas.List.{get_or-set_other, get_or-drop}
use Rattle.std.proofs.lemmas.List.Edits.{fill_by_more}
use Rattle.std.proofs.Math.Nat.{mod-lt}
use Rattle.number_transform.specs.declared.field.TheConstants.{PRIME}

pub set_more : (f : ℕ → ℕ) (xs : List ℕ) (i x : ℕ) → i < length xs → x ≡ f i → ((k : ℕ) → k < i → get_or xs k 0 ≡ f k) → (k : ℕ) → k < i + 1 → get_or (set xs i x) k 0 ≡ f k
set_more f xs i x h e below k more = subst (λ y. get_or (set xs i y) k 0 ≡ f k) (sym e) (fill_by_more f xs i 0 h below k more)

pub set_rest : (f : ℕ → ℕ) (xs : List ℕ) (i x : ℕ) → ((k : ℕ) → i ≤ k → get_or xs k 0 ≡ f k) → (k : ℕ) → i + 1 ≤ k → get_or (set xs i x) k 0 ≡ f k
set_rest f xs i x rest k above =
    let other : k ≢ i = omega arith in
    get_or-set_other xs i k x 0 other ∙ rest k (omega arith)

pub set_small : (p : ℕ) (xs : List ℕ) (i x : ℕ) → x < p → ((k : ℕ) → get_or xs k 0 < p) → (k : ℕ) → get_or (set xs i x) k 0 < p
set_small p [] i x h small k = small k
set_small p (y ∷ ys) zero x h small zero = h
set_small p (y ∷ ys) zero x h small (suc k) = small (suc k)
set_small p (y ∷ ys) (suc i) x h small zero = small 0
set_small p (y ∷ ys) (suc i) x h small (suc k) = set_small p ys i x h (λ j. small (suc j)) k

pub small_take : (p n : ℕ) (xs : List ℕ) → 0 < p → ((k : ℕ) → get_or xs k 0 < p) → (k : ℕ) → get_or (take n xs) k 0 < p
small_take p zero xs some h k = some
small_take p (suc n) [] some h k = some
small_take p (suc n) (x ∷ xs) some h zero = h 0
small_take p (suc n) (x ∷ xs) some h (suc k) = small_take p n xs some (λ j. h (suc j)) k

pub small_drop : (p n : ℕ) (xs : List ℕ) → ((k : ℕ) → get_or xs k 0 < p) → (k : ℕ) → get_or (drop n xs) k 0 < p
small_drop p n xs h k = rw get_or-drop (h (n + k))

pub small_append : (p : ℕ) (xs ys : List ℕ) → ((i : ℕ) → get_or xs i 0 < p) → ((i : ℕ) → get_or ys i 0 < p) → (i : ℕ) → get_or (xs ++ ys) i 0 < p
small_append p [] ys h k i = k i
small_append p (x ∷ xs) ys h k zero = h 0
small_append p (x ∷ xs) ys h k (suc i) = small_append p xs ys (λ j. h (suc j)) k i

-- numbers that were reduced are small
pub residues_of : (f : ℕ → ℕ) (xs : List ℕ) → ((k : ℕ) → k < length xs → get_or xs k 0 ≡ f k % PRIME) → (k : ℕ) → get_or xs k 0 < PRIME
residues_of f [] h k = omega arith
residues_of f (x ∷ xs) h zero = subst (λ y. y < PRIME) (sym (h 0 (omega arith))) (mod-lt (f 0) (omega arith))
residues_of f (x ∷ xs) h (suc k) = residues_of (λ i. f (suc i)) xs (λ i below. h (suc i) (omega arith)) k
