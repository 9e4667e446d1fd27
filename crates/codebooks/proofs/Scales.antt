-- Shifts and limits of signed numbers.
use Rattle.std.proofs.Common.{◌≡◌, ℕ, zero, suc, ◌*◌, ◌/◌, ◌%◌, ◌^◌, ◌<◌, ◌≤◌, ℤ, pos, negsuc, ◌*ℤ◌, unsigned_abs, min, inl, inr, ap, sym, ◌∙◌, arith, w64, to_z, of_z}
use Rattle.std.specs.Int.{saturate_signed}
use Rattle.std.proofs.lemmas.Int.{ints, clamps, to_z-of_z, to_z_pos, fits_signed_from_abs}
use Rattle.std.proofs.lemmas.Bool.{cases_lt}
use Rattle.std.proofs.lemmas.Nat.{one_shl}
use Rattle.std.proofs.Math.Nat.{mul-le-mul_right, div-eq_of_lt, div-le_self}
use Rattle.std.proofs.Math.Pow.{pow_mono}
use lib.Signed.{shr_z}
use Rattle.std.specs.Prelude.{FitsSigned}
use Rattle.model_fixed.specs.Fixed.{clamp, shift_down}

-- a limit hides that of 64 bits
saturated : (z : ℤ) → clamp (2 ^ 32) (saturate_signed w64 z) ≡ clamp (2 ^ 32) z
saturated (pos n) = omega (arith, ints, clamps)
saturated (negsuc n) = omega (arith, ints, clamps)

-- times a large number there is no more than the sign
limited : (z : ℤ) (p r : ℕ) → 2 ^ 33 ≤ p → 2 ^ 33 ≤ r → clamp (2 ^ 32) (z *ℤ pos p) ≡ clamp (2 ^ 32) (z *ℤ pos r)
limited (pos zero) p r a b = omega (arith, ints, clamps)
limited (pos (suc n)) p r a b =
    let x : 1 * p ≤ suc n * p = mul-le-mul_right p (omega arith) in
    let y : 1 * r ≤ suc n * r = mul-le-mul_right r (omega arith) in
    omega (arith, ints, clamps)
limited (negsuc n) p r a b =
    let x : 1 * p ≤ suc n * p = mul-le-mul_right p (omega arith) in
    let y : 1 * r ≤ suc n * r = mul-le-mul_right r (omega arith) in
    omega (arith, ints, clamps)

pub scaled_up_is : (z : ℤ) (shift s : ℕ) → s ≡ min shift 33 → clamp (2 ^ 32) (saturate_signed w64 (z *ℤ pos (2 ^ s))) ≡ clamp (2 ^ 32) (z *ℤ pos (2 ^ shift))
scaled_up_is z shift s e = saturated (z *ℤ pos (2 ^ s)) ∙ elim (cases_lt shift 33) [
  | inl small ↦ let f : s ≡ shift = omega arith in ap (λ n. clamp (2 ^ 32) (z *ℤ pos (2 ^ n))) f
  | inr large ↦
      let f : 33 ≤ s = omega arith in
      limited z (2 ^ s) (2 ^ shift) (pow_mono f) (pow_mono large)
]

-- a number is shifted out by 63 bits
gone : (a k : ℕ) → a < 2 ^ 63 → 63 ≤ k → a / 2 ^ k ≡ 0
gone a k h l = let p : 2 ^ 63 ≤ 2 ^ k = pow_mono l in div-eq_of_lt (omega arith)

shifted_out : (z : ℤ) (k : ℕ) → unsigned_abs z ≤ 2 ^ 53 → 63 ≤ k → shift_down z 63 ≡ shift_down z k
shifted_out (pos a) k h l = ap pos (gone a 63 (omega arith) (omega arith) ∙ sym (gone a k (omega arith) l))
shifted_out (negsuc a) k h l = ap negsuc (gone a 63 (omega arith) (omega arith) ∙ sym (gone a k (omega arith) l))

pub shift_is : (z : ℤ) (shift s : ℕ) → unsigned_abs z ≤ 2 ^ 53 → s ≡ min shift 63 → shift_down z s ≡ shift_down z shift
shift_is z shift s h e = elim (cases_lt shift 63) [
  | inl small ↦ let f : s ≡ shift = omega arith in ap (shift_down z) f
  | inr large ↦ let f : s ≡ 63 = omega arith in ap (shift_down z) f ∙ shifted_out z shift h large
]

shift_small : (z : ℤ) (m : ℕ) → unsigned_abs (shr_z z m) ≤ unsigned_abs z
shift_small (pos a) m = div-le_self a m
shift_small (negsuc a) m = omega (arith, div-le_self a m)

-- as 64 bits do it
pub shifted_down : (z r : ℤ) (shift s : ℕ) → FitsSigned w64 r → unsigned_abs z ≤ 2 ^ 53 → s ≡ min shift 63
    → r ≡ clamp (2 ^ 32) (to_z w64 (of_z w64 (shr_z (to_z w64 (of_z w64 z)) (2 ^ s)))) → to_z w64 (of_z w64 r) ≡ clamp (2 ^ 32) (shift_down z shift)
shifted_down z r shift s fits small e h =
    let fz : FitsSigned w64 z = fits_signed_from_abs w64 z (omega arith) in
    let fs : FitsSigned w64 (shr_z z (2 ^ s)) = fits_signed_from_abs w64 (shr_z z (2 ^ s)) (omega (arith, shift_small z (2 ^ s))) in
    let g : r ≡ clamp (2 ^ 32) (shr_z z (2 ^ s)) = rw (to_z-of_z w64 z fz, to_z-of_z w64 (shr_z z (2 ^ s)) fs) at h in
    to_z-of_z w64 r fits ∙ g ∙ ap (clamp (2 ^ 32)) (shift_is z shift s small e)

pub shifted_up : (z r q : ℤ) (shift s : ℕ) → FitsSigned w64 r → FitsSigned w64 q → unsigned_abs z ≤ 2 ^ 53 → s ≡ min shift 33
    → q ≡ saturate_signed w64 (to_z w64 (of_z w64 z) *ℤ to_z w64 (1 * 2 ^ s % 2 ^ 64)) → r ≡ clamp (2 ^ 32) (to_z w64 (of_z w64 q)) → to_z w64 (of_z w64 r) ≡ clamp (2 ^ 32) (z *ℤ pos (2 ^ shift))
shifted_up z r q shift s fits fits_q small e h g =
    let fz : FitsSigned w64 z = fits_signed_from_abs w64 z (omega arith) in
    let le : s ≤ 33 = omega arith in
    let p : 2 ^ s ≤ 2 ^ 33 = pow_mono le in
    let one : 1 * 2 ^ s % 2 ^ 64 ≡ 2 ^ s = one_shl s 64 (omega arith) in
    let up : to_z w64 (2 ^ s) ≡ pos (2 ^ s) = to_z_pos w64 (2 ^ s) (omega arith) in
    let h' : q ≡ saturate_signed w64 (z *ℤ pos (2 ^ s)) = h ∙ ap (λ n. saturate_signed w64 (to_z w64 (of_z w64 z) *ℤ n)) (ap (to_z w64) one ∙ up) ∙ ap (λ n. saturate_signed w64 (n *ℤ pos (2 ^ s))) (to_z-of_z w64 z fz) in
    to_z-of_z w64 r fits ∙ g ∙ ap (clamp (2 ^ 32)) (to_z-of_z w64 q fits_q ∙ h') ∙ scaled_up_is z shift s e
