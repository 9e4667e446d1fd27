-- The product with a weight, rounded down.
use Rattle.std.proofs.Common.{◌≡◌, refl, ℕ, suc, ◌+◌, ◌-◌, ◌*◌, ◌/◌, ◌^◌, ◌<◌, ◌≤◌, ◌∙◌, sym, ap, subst, ℤ, pos, negsuc, ◌*ℤ◌, neg_ℤ, unsigned_abs, FitsSigned, to_z, of_z, w64, arith}
use Rattle.std.proofs.lemmas.Int.{to_z-of_z, fits_signed_mul, fits_signed_from_abs, unsigned_abs-mul}
use Rattle.std.proofs.lemmas.Nat.{pow_pos, shl-shr, div_below, mul-le, div-mul-add}
use Rattle.std.proofs.Math.Nat.{pow-le-pow_right}
use lib.Signed.{shr_z}
use Rattle.model_synthesis.specs.declared.constants.TheConstants.{SCALE}
use Rattle.model_synthesis.specs.Transform.{IsBlockValue}
use Rattle.model_synthesis.specs.Windows.{weighted}

-- a quotient that is rounded down is no more than the bound of its dividend's magnitude says
shift_small : (z : ℤ) (m bound : ℕ) → 0 < m → unsigned_abs z ≤ bound * m → unsigned_abs (shr_z z m) ≤ bound
shift_small (pos n) m bound some h = let less : n / m < bound + 1 = div_below n m (bound + 1) some (omega arith) in omega arith
shift_small (negsuc n) m bound some h = let less : n / m < bound = div_below n m bound some (omega arith) in omega arith

module _ (v : ℤ) (weight scale : ℕ) (value : IsBlockValue v) (few : scale ≤ SCALE) (small : weight ≤ 2 ^ scale) where
  product : unsigned_abs (v *ℤ pos weight) ≤ 2 ^ 39 * 2 ^ scale
  product = subst (λ n. n ≤ 2 ^ 39 * 2 ^ scale) (sym (unsigned_abs-mul v (pos weight))) (mul-le (unsigned_abs v) weight (2 ^ 39) (2 ^ scale) value small)

  pub product_fits : FitsSigned w64 (v *ℤ pos weight)
  product_fits =
      let low : weight ≤ 2 ^ 23 = let most : 2 ^ scale ≤ 2 ^ 23 = pow-le-pow_right (omega arith) few in omega arith in
      fits_signed_mul w64 v (pos weight) (2 ^ 39) (2 ^ 23) value low (omega arith)

  pub weighted_small : IsBlockValue (weighted scale v weight)
  weighted_small = shift_small (v *ℤ pos weight) (2 ^ scale) (2 ^ 39) (pow_pos scale) product

  pub value_fits : FitsSigned w64 v
  value_fits = fits_signed_from_abs w64 v (let h : unsigned_abs v ≤ 2 ^ 39 = value in omega arith)

  pub weight_fits : FitsSigned w64 (pos weight)
  weight_fits =
      fits_signed_from_abs w64 (pos weight) (let most : 2 ^ scale ≤ 2 ^ 23 = pow-le-pow_right (omega arith) few in omega arith)

  pub result_fits : FitsSigned w64 (weighted scale v weight)
  result_fits = fits_signed_from_abs w64 (weighted scale v weight) (let h : unsigned_abs (weighted scale v weight) ≤ 2 ^ 39 = weighted_small in omega arith)

  -- what the code computes
  pub computed : to_z w64 (of_z w64 (shr_z (to_z w64 (of_z w64 (to_z w64 (of_z w64 v) *ℤ to_z w64 (of_z w64 (pos weight))))) (2 ^ scale))) ≡ weighted scale v weight
  computed = rw (to_z-of_z w64 v value_fits, to_z-of_z w64 (pos weight) weight_fits, to_z-of_z w64 (v *ℤ pos weight) product_fits) (to_z-of_z w64 (weighted scale v weight) result_fits)

  pub factors : to_z w64 (of_z w64 v) *ℤ to_z w64 (of_z w64 (pos weight)) ≡ v *ℤ pos weight
  factors = rw (to_z-of_z w64 v value_fits, to_z-of_z w64 (pos weight) weight_fits) refl

-- the weights 0 and 1
pub weighted_none : (scale : ℕ) (v : ℤ) → weighted scale v 0 ≡ pos 0
weighted_none scale (pos n) = ap pos (omega arith)
weighted_none scale (negsuc n) =
    let none : suc n * 0 ≡ 0 = omega arith in
    let rest : 0 / 2 ^ scale ≡ 0 = omega arith in
    ap (λ (k : ℕ). shr_z (neg_ℤ (pos k)) (2 ^ scale)) none ∙ ap pos rest

pub weighted_whole : (scale : ℕ) (v : ℤ) → weighted scale v (2 ^ scale) ≡ v
weighted_whole scale (pos n) = ap pos (shl-shr n scale)
weighted_whole scale (negsuc n) =
    let some : 0 < 2 ^ scale = pow_pos scale in
    let less : 2 ^ scale - 1 < 2 ^ scale = omega arith in
    let whole : suc n * 2 ^ scale ≡ suc (n * 2 ^ scale + (2 ^ scale - 1)) = omega arith in
    ap (λ (k : ℕ). shr_z (neg_ℤ (pos k)) (2 ^ scale)) whole
    ∙ ap negsuc (div-mul-add n (2 ^ scale) (2 ^ scale - 1) less)
