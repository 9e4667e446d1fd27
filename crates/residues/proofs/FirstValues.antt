-- A reading takes as many values as it has places.
use Rattle.std.proofs.Common.{◌≡◌, ℕ, zero, suc, ◌≤◌, List, [], ◌∷◌, length, take, drop, set, ◌++◌, min, length-append, length-take, length-drop, Option, Some, None, Bool, true, ℤ, refl, sym, ap, ◌∙◌, fold, arith}
use Rattle.std.specs.List.{zip}
use Rattle.std.proofs.lemmas.Option.{none-some, some_pair_parts}
use Rattle.std.proofs.Math.Seq.{take-nil}
use Rattle.model_setup.specs.ResidueDecoding.{add_to, add_all, vector_in, with_values}
use Rattle.codebooks.specs.FirstValues.{first_values_of}
use Rattle.residues.specs.Decoders.{state}

zip_first_values : (places : List ℕ) (values : List ℤ) (n : ℕ) → length places ≤ n → zip places (take n values) ≡ zip places values
zip_first_values [] values n le = refl
zip_first_values (p ∷ places) [] n le = ap (zip (p ∷ places)) (take-nil n)
zip_first_values (p ∷ places) (v ∷ values) zero le = absurd (omega arith)
zip_first_values (p ∷ places) (v ∷ values) (suc n) le = ap (λ ps. (p, v) ∷ ps) (zip_first_values places values n (omega arith))

-- values that were written at the front
pub length_refilled : (new values : List ℤ) (n : ℕ) → length new ≡ length (take n values) → length (new ++ drop n values) ≡ length values
length_refilled new values n same =
    let many : length new ≡ min n (length values) = same ∙ length-take n values in
    simp (length-append, length-drop) (omega arith)

-- so many values and bits that were read make the same state as all values of the vector
pub first_values_read : (vectors : List (List ℤ)) (classes : List ℕ) (left after : List Bool) (vector n : ℕ) (places : List ℕ) (values : List ℤ) (read : Option (List ℤ × List Bool)) → length places ≤ n
    → first_values_of n read ≡ Some (values, after)
    → with_values vector (state vectors classes left true) places read ≡ state (set vectors vector (add_all (vector_in vectors vector) places values)) classes after true
first_values_read vectors classes left after vector n places values None le h = absurd (none-some (values, after) h)
first_values_read vectors classes left after vector n places values (Some r) le h =
    let parts = some_pair_parts (take n r.0) values r.1 after h in
    let line = vector_in vectors vector in
    let same : add_all line places r.0 ≡ add_all line places values = ap (λ z. fold add_to line z) (sym (zip_first_values places r.0 n le)) ∙ ap (λ v. add_all line places v) parts.0 in
    ap (λ l. state (set vectors vector l) classes r.1 true) same ∙ ap (λ b. state (set vectors vector (add_all line places values)) classes b true) parts.1
