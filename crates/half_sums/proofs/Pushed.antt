-- A list all of whose elements are within a limit, and one more.
use Rattle.std.proofs.Common.{◌≡◌, ℕ, zero, suc, ◌+◌, ◌<◌, ◌≤◌, sym, subst, List, [], ◌∷◌, ◌++◌, length, get_or, ℤ, pos, unsigned_abs, arith}

pub small_pushed : (m : ℕ) (xs : List ℕ) (x : ℕ) → x ≤ m → ((i : ℕ) → get_or xs i 0 ≤ m) → (i : ℕ) → get_or (xs ++ x ∷ []) i 0 ≤ m
small_pushed m [] x h small zero = h
small_pushed m [] x h small (suc i) = small 0
small_pushed m (y ∷ ys) x h small zero = small 0
small_pushed m (y ∷ ys) x h small (suc i) = small_pushed m ys x h (λ j. small (suc j)) i

pub bins_pushed : (m : ℕ) (xs : List ℤ) (x : ℤ) → unsigned_abs x ≤ m → ((i : ℕ) → unsigned_abs (get_or xs i (pos 0)) ≤ m) → (i : ℕ) → unsigned_abs (get_or (xs ++ x ∷ []) i (pos 0)) ≤ m
bins_pushed m [] x h small zero = h
bins_pushed m [] x h small (suc i) = small 0
bins_pushed m (y ∷ ys) x h small zero = small 0
bins_pushed m (y ∷ ys) x h small (suc i) = bins_pushed m ys x h (λ j. small (suc j)) i

-- what holds of each element and its place, and of one more
pub each_with_pushed : (P : ℕ → ℕ → Type 0) (xs : List ℕ) (x n : ℕ) → length xs ≡ n → ((k : ℕ) → k < n → P k (get_or xs k 0)) → P n x → (k : ℕ) → k < n + 1 → P k (get_or (xs ++ x ∷ []) k 0)
each_with_pushed P [] x n e old new zero h = subst (λ m. P m x) (sym e) new
each_with_pushed P [] x n e old new (suc k) h = absurd (omega arith)
each_with_pushed P (y ∷ ys) x zero e old new k h = absurd (omega arith)
each_with_pushed P (y ∷ ys) x (suc n) e old new zero h = old 0 (omega arith)
each_with_pushed P (y ∷ ys) x (suc n) e old new (suc k) h = each_with_pushed (λ j. P (suc j)) ys x n (omega arith) (λ j below. old (suc j) (omega arith)) new k (omega arith)
