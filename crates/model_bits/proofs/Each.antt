-- Reading a value for each item of a list, as a loop over the list does.
use Rattle.std.proofs.Common.{◌≡◌, ℕ, suc, ◌+◌, ◌≤◌, ◌<◌, List, [], ◌∷◌, ◌++◌, Result, Ok, Err, Bool, length, drop, get_or, refl, sym, ap, ◌∙◌, append_assoc, add-one, zero-add, drop-cons, arith}
use Rattle.std.specs.List.{range_with_len}
use Rattle.std.proofs.lemmas.List.FromFn.{get_or-range_with_len, length-range_with_len}
use Rattle.std.proofs.lemmas.List.{append-nil, drop_all}
use Rattle.model_bits.specs.Reading.{each, then_read, give}
use Rattle.model_bits.proofs.Times.{with_front}

regroup : {E A : Type 0} (front : List A) (x : A) (reading : Result (List A × List Bool) E) → with_front front (then_read reading (λ xs. give (x ∷ xs))) ≡ with_front (front ++ x ∷ []) reading
regroup front x (Ok y) = ap (λ ns. Ok (ns, y.1)) (sym (append_assoc front (x ∷ []) y.0))
regroup front x (Err e) = refl

module _ {E X A : Type 0} (m : X → List Bool → Result (A × List Bool) E) (front : List A) (items : List X) (i : ℕ) (d : X) (left : List Bool) (total : Result (List A × List Bool) E) (so_far : with_front front (each m (drop i items) left) ≡ total) where
  pub each_goes_on : (x : A) (after : List Bool) → i < length items → m (get_or items i d) left ≡ Ok (x, after) → with_front (front ++ x ∷ []) (each m (drop (i + 1) items) after) ≡ total
  each_goes_on x after lt h =
      let k : drop i items ≡ get_or items i d ∷ drop (suc i) items = drop-cons items i d lt in
      let one : with_front front (each m (drop i items) left) ≡ with_front (front ++ x ∷ []) (each m (drop (suc i) items) after) = rw (k, h) (regroup front x (each m (drop (suc i) items) after)) in
      rw add-one (sym one ∙ so_far)

  pub each_fails : (e : E) → i < length items → m (get_or items i d) left ≡ Err e → total ≡ Err e
  each_fails e lt h =
      let k : drop i items ≡ get_or items i d ∷ drop (suc i) items = drop-cons items i d lt in
      let one : with_front front (each m (drop i items) left) ≡ Err e = rw (k, h) refl in
      sym so_far ∙ one

  pub each_ends : length items ≤ i → total ≡ Ok (front, left)
  each_ends le =
      let k : drop i items ≡ [] = drop_all i items le in
      let one : with_front front (each m (drop i items) left) ≡ Ok (front, left) = rw k (ap (λ ns. Ok (ns, left)) (append-nil front)) in
      sym so_far ∙ one

-- the same over the first numbers
module _ {E A : Type 0} (m : ℕ → List Bool → Result (A × List Bool) E) (front : List A) (count i : ℕ) (left : List Bool) (total : Result (List A × List Bool) E) (so_far : with_front front (each m (drop i (range_with_len 0 count)) left) ≡ total) where
  here : i < count → (r : Result (A × List Bool) E) → m i left ≡ r → m (get_or (range_with_len 0 count) i 0) left ≡ r
  here lt r h = ap (λ n. m n left) (get_or-range_with_len 0 count i 0 lt ∙ zero-add i) ∙ h

  pub each_number_goes_on : (x : A) (after : List Bool) → i < count → m i left ≡ Ok (x, after) → with_front (front ++ x ∷ []) (each m (drop (i + 1) (range_with_len 0 count)) after) ≡ total
  each_number_goes_on x after lt h =
      each_goes_on m front (range_with_len 0 count) i 0 left total so_far x after (omega (arith, length-range_with_len 0 count)) (here lt (Ok (x, after)) h)

  pub each_number_fails : (e : E) → i < count → m i left ≡ Err e → total ≡ Err e
  each_number_fails e lt h = each_fails m front (range_with_len 0 count) i 0 left total so_far e (omega (arith, length-range_with_len 0 count)) (here lt (Err e) h)

  pub each_number_ends : count ≤ i → total ≡ Ok (front, left)
  each_number_ends le = each_ends m front (range_with_len 0 count) i 0 left total so_far (omega (arith, length-range_with_len 0 count))
