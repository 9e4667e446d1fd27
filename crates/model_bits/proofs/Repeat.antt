-- Reading values one after the other with a state, as a loop over a count does.
use Rattle.std.proofs.Common.{◌≡◌, ℕ, suc, ◌-◌, ◌+◌, ◌≤◌, ◌<◌, List, [], ◌∷◌, ◌++◌, Result, Ok, Err, refl, sym, ap, ◌∙◌, append_assoc, arith, Bool}
use Rattle.std.proofs.lemmas.List.{append-nil}
use Rattle.model_bits.specs.Reading.{repeat, then_read, give}

-- what was read before, and what is still read
abbrev pub behind : {E S A : Type 0} → List A → Result ((List A × S) × List Bool) E → Result ((List A × S) × List Bool) E
behind front (Ok x) = Ok ((front ++ x.0.0, x.0.1), x.1)
behind front (Err e) = Err e

regroup : {E S A : Type 0} (front : List A) (x : A) (reading : Result ((List A × S) × List Bool) E) → behind front (then_read reading (λ xs. give (x ∷ xs.0, xs.1))) ≡ behind (front ++ x ∷ []) reading
regroup front x (Ok y) = ap (λ ns. Ok ((ns, y.0.1), y.1)) (sym (append_assoc front (x ∷ []) y.0.0))
regroup front x (Err e) = refl

module _ {E S A : Type 0} (m : S → List Bool → Result ((A × S) × List Bool) E) (front : List A) (count i : ℕ) (s : S) (left : List Bool) (total : Result ((List A × S) × List Bool) E) (so_far : behind front (repeat (count - i) m s left) ≡ total) where
  pub repeat_goes_on : (x : A) (t : S) (after : List Bool) → i < count → m s left ≡ Ok ((x, t), after) → behind (front ++ x ∷ []) (repeat (count - (i + 1)) m t after) ≡ total
  repeat_goes_on x t after lt h =
      let k : count - i ≡ suc (count - (i + 1)) = omega arith in
      let one : behind front (repeat (count - i) m s left) ≡ behind (front ++ x ∷ []) (repeat (count - (i + 1)) m t after) = rw (k, h) (regroup front x (repeat (count - (i + 1)) m t after)) in
      sym one ∙ so_far

  pub repeat_fails : (e : E) → i < count → m s left ≡ Err e → total ≡ Err e
  repeat_fails e lt h =
      let k : count - i ≡ suc (count - (i + 1)) = omega arith in
      let one : behind front (repeat (count - i) m s left) ≡ Err e = rw (k, h) refl in
      sym so_far ∙ one

  pub repeat_ends : count ≤ i → total ≡ Ok ((front, s), left)
  repeat_ends le =
      let k : count - i ≡ 0 = omega arith in
      let one : behind front (repeat (count - i) m s left) ≡ Ok ((front, s), left) = rw k (ap (λ ns. Ok ((ns, s), left)) (append-nil front)) in
      sym so_far ∙ one
