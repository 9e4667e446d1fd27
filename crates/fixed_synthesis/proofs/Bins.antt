-- What a bin is after it was taken apart, as 64 bits hold it.
use Rattle.std.proofs.Common.{◌≡◌, ◌^◌, ◌≤◌, ◌∙◌, ap, ℤ, unsigned_abs, to_z, of_z, w64, arith}
use Rattle.std.proofs.lemmas.Int.{to_z-of_z, fits_signed_from_abs}
use Rattle.model_fixed.specs.Fixed.{IsWithinLimit}

pub as_64_bits : (z : ℤ) → unsigned_abs z ≤ 2 ^ 33 → to_z w64 (of_z w64 z) ≡ z
as_64_bits z h = to_z-of_z w64 z (fits_signed_from_abs w64 z (omega arith))

-- x and y are what the bins m and a are at first, and r is what is made of them
pub bin_is : (value : ℤ → ℤ → ℤ)
    → (m a x y r : ℤ) → IsWithinLimit m → IsWithinLimit a → IsWithinLimit (value m a) → x ≡ m → y ≡ a
    → r ≡ value (to_z w64 (of_z w64 x)) (to_z w64 (of_z w64 y))
    → to_z w64 (of_z w64 r) ≡ value m a
bin_is value m a x y r hm ha hv ex ey er =
    let made : r ≡ value m a =
    er
    ∙ (ap (λ z. value (to_z w64 (of_z w64 z)) (to_z w64 (of_z w64 y))) ex
    ∙ (ap (λ z. value (to_z w64 (of_z w64 m)) (to_z w64 (of_z w64 z))) ey
    ∙ (ap (λ z. value z (to_z w64 (of_z w64 a))) (as_64_bits m (omega (arith, hm))) ∙ ap (value m) (as_64_bits a (omega (arith, ha)))))) in
    ap (λ z. to_z w64 (of_z w64 z)) made ∙ as_64_bits (value m a) (omega (arith, hv))
