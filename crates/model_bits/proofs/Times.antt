-- Reading values one after the other, as a loop over a count does.
use Rattle.std.proofs.Common.{◌≡◌, ℕ, suc, ◌-◌, ◌+◌, ◌≤◌, ◌<◌, List, [], ◌∷◌, ◌++◌, Result, Ok, Err, refl, sym, ap, ◌∙◌, append_assoc, arith, Bool, zero, length, subst}
use Rattle.std.proofs.lemmas.List.{append-nil}
use Rattle.model_bits.specs.Reading.{times, then_read, give}
pub use Rattle.model_bits.specs.Reading.{with_front}

regroup : {E A : Type 0} (front : List A) (x : A) (reading : Result (List A × List Bool) E) → with_front front (then_read reading (λ xs. give (x ∷ xs))) ≡ with_front (front ++ x ∷ []) reading
regroup front x (Ok y) = ap (λ ns. Ok (ns, y.1)) (sym (append_assoc front (x ∷ []) y.0))
regroup front x (Err e) = refl

module _ {E A : Type 0} (m : List Bool → Result (A × List Bool) E) (front : List A) (count i : ℕ) (left : List Bool) (total : Result (List A × List Bool) E) (so_far : with_front front (times (count - i) m left) ≡ total) where
  pub times_goes_on : (x : A) (after : List Bool) → i < count → m left ≡ Ok (x, after) → with_front (front ++ x ∷ []) (times (count - (i + 1)) m after) ≡ total
  times_goes_on x after lt h =
      let k : count - i ≡ suc (count - (i + 1)) = omega arith in
      let one : with_front front (times (count - i) m left) ≡ with_front (front ++ x ∷ []) (times (count - (i + 1)) m after) = rw (k, h) (regroup front x (times (count - (i + 1)) m after)) in
      sym one ∙ so_far

  pub times_fails : (e : E) → i < count → m left ≡ Err e → total ≡ Err e
  times_fails e lt h =
      let k : count - i ≡ suc (count - (i + 1)) = omega arith in
      let one : with_front front (times (count - i) m left) ≡ Err e = rw (k, h) refl in
      sym so_far ∙ one

  pub times_ends : count ≤ i → total ≡ Ok (front, left)
  times_ends le =
      let k : count - i ≡ 0 = omega arith in
      let one : with_front front (times (count - i) m left) ≡ Ok (front, left) = rw k (ap (λ ns. Ok (ns, left)) (append-nil front)) in
      sym so_far ∙ one

-- the first of them, and the others behind it
pub times-first : {E A : Type 0} (m : List Bool → Result (A × List Bool) E) (n : ℕ) (left : List Bool) (x : A) (after : List Bool) → m left ≡ Ok (x, after)
    → times (suc n) m left ≡ then_read (times n m after) (λ xs. give (x ∷ xs))
times-first m n left x after h = ap (λ r. then_read r (λ y l. then_read (times n m l) (λ xs. give (y ∷ xs)))) h

pub times-refused : {E A : Type 0} (m : List Bool → Result (A × List Bool) E) (n : ℕ) (left : List Bool) (e : E) → m left ≡ Err e → times (suc n) m left ≡ Err e
times-refused m n left e h = ap (λ r. then_read r (λ y l. then_read (times n m l) (λ xs. give (y ∷ xs)))) h

abbrev IsLong : {E A : Type 0} → ℕ → Result (List A × List Bool) E → Type 0
IsLong n (Ok x) = length x.0 ≡ n
IsLong n (Err e) = Unit {0}

longer : {E A : Type 0} (n : ℕ) (x : A) (r : Result (List A × List Bool) E) → IsLong n r → IsLong (suc n) (then_read r (λ xs. give (x ∷ xs)))
longer n x (Ok y) h = ap suc h
longer n x (Err e) h = tt

long : {E A : Type 0} (m : List Bool → Result (A × List Bool) E) (n : ℕ) (left : List Bool) → IsLong n (times n m left)
long m zero left = refl
long m (suc n) left =
    elim (m left) as (λ r. IsLong (suc n) (then_read r (λ y l. then_read (times n m l) (λ xs. give (y ∷ xs))))) [
      | Ok x ↦ longer n x.0 (times n m x.1) (long m n x.1)
      | Err e ↦ tt
    ]

-- so many values are so many
pub times_length : {E A : Type 0} (m : List Bool → Result (A × List Bool) E) (n : ℕ) (left : List Bool) (xs : List A) (after : List Bool) → times n m left ≡ Ok (xs, after) → length xs ≡ n
times_length m n left xs after h = subst (IsLong n) h (long m n left)
