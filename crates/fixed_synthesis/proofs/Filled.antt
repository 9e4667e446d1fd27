-- A list of signed numbers that is written place by place.
use Rattle.std.proofs.Common.{◌≡◌, ◌≢◌, ℕ, ◌+◌, ◌<◌, ◌≤◌, List, length, get_or, set, ◌∙◌, sym, subst, ℤ, pos, unsigned_abs, arith}
use Rattle.std.proofs.lemmas.List.{get_or-set_other}
use Rattle.std.proofs.lemmas.List.Edits.{fill_by_more}
use Rattle.std.proofs.lemmas.Int.{ints, clamps}
use Rattle.model_fixed.specs.Fixed.{clamp}

pub set_more : (f : ℕ → ℤ) (xs : List ℤ) (i : ℕ) (x : ℤ) → i < length xs → x ≡ f i → ((k : ℕ) → k < i → get_or xs k (pos 0) ≡ f k) → (k : ℕ) → k < i + 1 → get_or (set xs i x) k (pos 0) ≡ f k
set_more f xs i x h e below k more =
    subst (λ y. get_or (set xs i y) k (pos 0) ≡ f k) (sym e) (fill_by_more f xs i (pos 0) h below k more)

pub set_rest : (f : ℕ → ℤ) (xs : List ℤ) (i : ℕ) (x : ℤ) → ((k : ℕ) → i ≤ k → get_or xs k (pos 0) ≡ f k) → (k : ℕ) → i + 1 ≤ k → get_or (set xs i x) k (pos 0) ≡ f k
set_rest f xs i x rest k above =
    let other : k ≢ i = omega arith in
    get_or-set_other xs i k x (pos 0) other ∙ rest k (omega arith)

pub clamp_small : (m : ℕ) (z : ℤ) → unsigned_abs (clamp m z) ≤ m
clamp_small m z = grind (arith, ints, clamps)
