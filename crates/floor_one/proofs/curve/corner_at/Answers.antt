use Rattle.std.proofs.Common.{◌≡◌, ℕ, ◌^◌, ◌≤◌, ℤ, pos, ◌*ℤ◌, unsigned_abs, w32, w64, to_z, of_z, ap, ◌∙◌, arith}
use Rattle.std.proofs.lemmas.Int.{to_z-of_z, fits_signed_from_abs, unsigned_abs-mul}
use Rattle.std.proofs.lemmas.Nat.{mul-le}
use Rattle.floor_one.proofs.curve.corner_at.Goals as goal

small : (v : ℤ) (m : ℕ) → unsigned_abs v ≤ 2 ^ 25 → m ≤ 4 → unsigned_abs (v *ℤ pos m) ≤ 2 ^ 27
small v m a b = omega (arith, unsigned_abs-mul v (pos m), mul-le (unsigned_abs v) m (2 ^ 25) 4 a b)

same : (a : ℤ) → unsigned_abs a ≤ 2 ^ 27 → to_z w64 (of_z w64 a) ≡ a
same a h = to_z-of_z w64 a (fits_signed_from_abs w64 a (omega arith))

product : (v a b : ℤ) (m : ℕ) → unsigned_abs v ≤ 2 ^ 25 → m ≤ 4 → a ≡ v → b ≡ pos m → to_z w64 (of_z w64 (to_z w64 (of_z w64 a) *ℤ to_z w64 (of_z w64 b))) ≡ v *ℤ pos m
product v a b m hv hm ea eb =
    ap (λ x. to_z w64 (of_z w64 (to_z w64 (of_z w64 x) *ℤ to_z w64 (of_z w64 b)))) ea
    ∙ ap (λ x. to_z w64 (of_z w64 (to_z w64 (of_z w64 v) *ℤ to_z w64 (of_z w64 x)))) eb
    ∙ ap (λ x. to_z w64 (of_z w64 (x *ℤ to_z w64 (of_z w64 (pos m))))) (same v (omega arith))
    ∙ ap (λ x. to_z w64 (of_z w64 (v *ℤ x))) (same (pos m) (omega arith))
    ∙ same (v *ℤ pos m) (small v m hv hm)

value_is : (v a : ℤ) → unsigned_abs v ≤ 2 ^ 25 → a ≡ to_z w32 (of_z w32 v) → a ≡ v
value_is v a h e = e ∙ to_z-of_z w32 v (fits_signed_from_abs w32 v (omega arith))

pub returns-clause-y : goal.returns-clause-y
returns-clause-y c =
    product c.args.point.value c.from-2.result c.from-3.result c.args.multiplier c.requires.point c.requires.multiplier (value_is c.args.point.value c.from-2.result c.requires.point c.from-2.ensures) c.from-3.ensures

pub returns-clause-small : goal.returns-clause-small
returns-clause-small c =
    let e = product c.args.point.value c.from-2.result c.from-3.result c.args.multiplier c.requires.point c.requires.multiplier (value_is c.args.point.value c.from-2.result c.requires.point c.from-2.ensures) c.from-3.ensures in
    omega (arith, ap unsigned_abs e, small c.args.point.value c.args.multiplier c.requires.point c.requires.multiplier)
