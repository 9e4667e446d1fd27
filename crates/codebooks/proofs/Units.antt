-- Multiplicands in units, and a division by a factor.
use Rattle.std.proofs.Common.{◌≡◌, ℕ, suc, ◌+◌, ◌-◌, ◌*◌, ◌/◌, ◌%◌, ◌^◌, ◌<◌, ◌≤◌, ℤ, pos, unsigned_abs, List, ◌++◌, [], ◌∷◌, length, get_or, map, take, ap, ◌∙◌, arith, w64, to_z, of_z}
use Rattle.std.specs.Prelude.{FitsSigned}
use Rattle.std.proofs.lemmas.Int.{ints, to_z-of_z, fits_signed_from_abs}
use Rattle.std.proofs.lemmas.List.{get_or-map, length-map, map-append, take_more}
use Rattle.std.proofs.lemmas.Nat.{div-add-mod', mod_below, div-mul-add}
use Rattle.std.proofs.Math.Nat.{mul-le-mul_left, lt_of_mul-lt-mul_right, le_of_mul-le-mul_right}
use Rattle.model_fixed.specs.Fixed.{fix, scaled, with_sign, is_below_zero, mantissa, exponent}
use Rattle.model_setup.specs.Codebook.{Lookup}
use Rattle.codebooks.proofs.SmallVectors.{clamp_small}
use Rattle.codebooks.specs.Units.{unit_of}

-- a product with the factor, divided by a power, is the quotient
pub by_factor : (m n b : ℕ) → 0 < b → n * b < m → n * (m / b + 1) / m ≡ n / b
by_factor m n b some h =
    let q = n / b in
    let r = n % b in
    let q0 = m / b in
    let r0 = m % b in
    let x = n * (q0 + 1) in
    let e1 : q0 * b + r0 ≡ m = div-add-mod' m b in
    let e2 : n * (q0 * b + r0) ≡ n * m = ap (λ z. n * z) e1 in
    let e3 : q * b + r ≡ n = div-add-mod' n b in
    let e4 : (q * b + r) * m ≡ n * m = ap (λ z. z * m) e3 in
    let s0 : r0 < b = mod_below m b some in
    let s : r < b = mod_below n b some in
    let le0 : r0 ≤ b = omega arith in
    let p0 : n * r0 ≤ n * b = mul-le-mul_left n le0 in
    let le : suc r ≤ b = omega arith in
    let p : m * suc r ≤ m * b = mul-le-mul_left m le in
    let low : (q * m) * b ≤ x * b = omega arith in
    let high : x * b < ((q + 1) * m) * b = omega arith in
    let from : q * m ≤ x = le_of_mul-le-mul_right low some in
    let to : x < (q + 1) * m = lt_of_mul-lt-mul_right b high in
    let split : x ≡ q * m + (x - q * m) = omega arith in
    let rest : x - q * m < m = omega arith in
    ap (λ z. z / m) split ∙ div-mul-add q m (x - q * m) rest

fix_small : (q packed : ℕ) → unsigned_abs (fix q packed) ≤ 2 ^ 32
unfolding fix
fix_small q packed = clamp_small (scaled (with_sign (is_below_zero packed) (q * mantissa packed)) (exponent packed))

unit_small : (minimum delta multiplicand : ℕ) → unsigned_abs (unit_of minimum delta multiplicand) ≤ 2 ^ 33
unit_small minimum delta multiplicand =
    let a = fix_small multiplicand delta in
    let b = fix_small 1 minimum in
    omega (arith, ints)

-- a unit as 64 bits have it
module _ (lookup : Lookup) (units : List ℤ) (k : ℕ) (same : units ≡ map (unit_of lookup.minimum lookup.delta) lookup.multiplicands) (within : k < length lookup.multiplicands) where
  unit : ℤ
  unit = unit_of lookup.minimum lookup.delta (get_or lookup.multiplicands k 0)

  pub unit_read : to_z w64 (of_z w64 (get_or units k (pos 0))) ≡ unit_of lookup.minimum lookup.delta (get_or lookup.multiplicands k 0)
  unit_read =
      let f = unit_of lookup.minimum lookup.delta in
      let m = get_or lookup.multiplicands k 0 in
      let e : get_or units k (pos 0) ≡ f m = ap (λ xs. get_or xs k (pos 0)) same ∙ get_or-map f lookup.multiplicands k 0 (pos 0) within in
      let small = unit_small lookup.minimum lookup.delta m in
      let fits : FitsSigned w64 (f m) = fits_signed_from_abs w64 (f m) (omega arith) in
      rw e (to_z-of_z w64 (f m) fits)

  pub unit_read_small : unsigned_abs (to_z w64 (of_z w64 (get_or units k (pos 0)))) ≤ 2 ^ 33
  unit_read_small = rw unit_read (unit_small lookup.minimum lookup.delta (get_or lookup.multiplicands k 0))

pub units_length : (lookup : Lookup) (units : List ℤ) → units ≡ map (unit_of lookup.minimum lookup.delta) lookup.multiplicands → length units ≡ length lookup.multiplicands
units_length lookup units same = ap length same ∙ length-map lookup.multiplicands (unit_of lookup.minimum lookup.delta)

pub units_more : (f : ℕ → ℤ) (xs : List ℕ) (i : ℕ) → i < length xs → map f (take (i + 1) xs) ≡ map f (take i xs) ++ f (get_or xs i 0) ∷ []
units_more f xs i lt = ap (map f) (take_more xs i 0 lt) ∙ map-append f (take i xs) (get_or xs i 0 ∷ [])
