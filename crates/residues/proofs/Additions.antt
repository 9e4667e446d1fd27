-- Values that are added one after the other, each at its place.
use Rattle.std.proofs.Common.{◌≡◌, ℕ, ◌+◌, ◌*◌, ◌<◌, List, [], ◌∷◌, ◌++◌, length, get_or, set, ℤ, pos, ◌+ℤ◌, w64, to_z, of_z, fold, refl, ap, sym, ◌∙◌, arith}
use Rattle.std.specs.List.{zip}
use Rattle.std.proofs.lemmas.Grind.{fold-append}
use Rattle.std.proofs.lemmas.Int.{to_z-of_z, fits_signed_from_abs}
use Rattle.std.proofs.lemmas.List.FromFn.{length-map-range_with_len, map-range_with_len_more}
use Rattle.model_fixed.specs.Fixed.{IsWithinLimit, limited}
use Rattle.model_setup.specs.ResidueDecoding.{add_to, add_all}
use Rattle.residues.specs.Layout.{run_places}

zip_push : {A B : Type 0} (xs : List A) (ys : List B) (x : A) (d : B) → length xs < length ys → zip (xs ++ x ∷ []) ys ≡ zip xs ys ++ (x, get_or ys (length xs) d) ∷ []
zip_push [] [] x d h = absurd (omega arith)
zip_push [] (y ∷ ys) x d h = refl
zip_push (k ∷ xs) [] x d h = absurd (omega arith)
zip_push (k ∷ xs) (y ∷ ys) x d h = ap (λ zs. (k, y) ∷ zs) (zip_push xs ys x d (omega arith))

-- one more place of a run
pub add_more : (values : List ℤ) (first stride j : ℕ) (terms : List ℤ) → j < length terms
    → add_all values (run_places first stride (j + 1)) terms ≡ add_to (add_all values (run_places first stride j) terms) (first + j * stride, get_or terms j (pos 0))
add_more values first stride j terms h =
    let place = λ (k : ℕ). first + k * stride in
    let len = length-map-range_with_len place 0 j in
    let places : run_places first stride (j + 1) ≡ run_places first stride j ++ place j ∷ [] = map-range_with_len_more place 0 j j (omega arith) in
    let pushed : zip (run_places first stride j ++ place j ∷ []) terms ≡ zip (run_places first stride j) terms ++ (place j, get_or terms (length (run_places first stride j)) (pos 0)) ∷ [] =
    zip_push (run_places first stride j) terms (place j) (pos 0) (omega arith) in
    ap (λ ps. add_all values ps terms) places
    ∙ ap (fold add_to values) (pushed ∙ ap (λ n. zip (run_places first stride j) terms ++ (place j, get_or terms n (pos 0)) ∷ []) len)
    ∙ fold-append add_to values (zip (run_places first stride j) terms) ((place j, get_or terms j (pos 0)) ∷ [])

pub as_64_bits : (r : ℤ) → IsWithinLimit r → to_z w64 (of_z w64 r) ≡ r
as_64_bits r h = to_z-of_z w64 r (fits_signed_from_abs w64 r (omega arith))

-- one more value of a run is added
module _ (start terms now : List ℤ) (first stride j : ℕ) (r : ℤ) (so_far : now ≡ add_all start (run_places first stride j) terms) (h : j < length terms) where
  pub added_next : r ≡ limited (get_or now (first + j * stride) (pos 0) +ℤ get_or terms j (pos 0))
      → set now (first + j * stride) r ≡ add_all start (run_places first stride (j + 1)) terms
  added_next e =
      ap (set now (first + j * stride)) e ∙ ap (λ xs. add_to xs (first + j * stride, get_or terms j (pos 0))) so_far ∙ sym (add_more start first stride j terms h)

  pub added_next_of : (x y : ℤ) → IsWithinLimit x → IsWithinLimit y → IsWithinLimit r
      → x ≡ get_or now (first + j * stride) (pos 0) → y ≡ get_or terms j (pos 0) → r ≡ limited (to_z w64 (of_z w64 x) +ℤ to_z w64 (of_z w64 y))
      → set now (first + j * stride) (to_z w64 (of_z w64 r)) ≡ add_all start (run_places first stride (j + 1)) terms
  added_next_of x y sx sy sr ex ey e =
      let z : r ≡ limited (x +ℤ y) = rw (as_64_bits x sx, as_64_bits y sy) at e in
      ap (set now (first + j * stride)) (as_64_bits r sr)
      ∙ added_next (z ∙ ap (λ a. limited (a +ℤ y)) ex ∙ ap (λ a. limited (get_or now (first + j * stride) (pos 0) +ℤ a)) ey)
