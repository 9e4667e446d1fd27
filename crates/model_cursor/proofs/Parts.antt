-- Parts of a list, one after the other.
use Rattle.std.proofs.Common.{◌≡◌, ℕ, zero, suc, ◌*◌, List, [], ◌∷◌, ◌++◌, length, take, drop, refl, ap, ◌∙◌, arith, length-drop, ℤ}
use Rattle.std.proofs.lemmas.List.{take-append-drop}
use Rattle.model_cursor.specs.FrameLists.{parts_of, values_of}

none_left : (values : List ℤ) → length values ≡ 0 → [] ≡ values
none_left [] e = refl
none_left (v ∷ vs) e = absurd (omega arith)

-- parts that are all of a list make it again
pub values_of-parts_of : (count size : ℕ) (values : List ℤ) → length values ≡ count * size → values_of (parts_of count size values) ≡ values
unfolding parts_of
values_of-parts_of zero size values e = none_left values (omega arith)
values_of-parts_of (suc count) size values e =
    let rest : length (drop size values) ≡ count * size = omega (arith, length-drop size values) in
    ap (λ (vs : List ℤ). take size values ++ vs) (values_of-parts_of count size (drop size values) rest) ∙ take-append-drop size values

-- there are so many parts
pub length-parts_of : {A : Type 0} (count size : ℕ) (xs : List A) → length (parts_of count size xs) ≡ count
unfolding parts_of
length-parts_of zero size xs = refl
length-parts_of (suc count) size xs = ap suc (length-parts_of count size (drop size xs))
