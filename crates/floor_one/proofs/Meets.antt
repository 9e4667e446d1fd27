-- The curve at the line of a flagged point.
use Rattle.std.proofs.Common.{◌≡◌, ℕ, ◌+◌, ◌-◌, ◌*◌, ◌/◌, List, get_or, Option, Some, None, Bool, true, false, inl, inr, refl, ap, ◌∙◌, ℤ, pos, ◌+ℤ◌, ◌-ℤ◌, int_lt, unsigned_abs, cond, mul-zero, arith}
use Rattle.std.proofs.Math.Nat.{zero-div}
use Rattle.std.proofs.lemmas.Bool.{cases_lt}
use Rattle.std.proofs.lemmas.Int.{ints}
use Rattle.model_setup.specs.declared.floor.Final.{Final}
use Rattle.model_setup.specs.FloorSetup.{FloorSetup}
use Rattle.model_setup.specs.FloorCurve.{render_point, final_of, height_of, height_between, decibel_number, nearest_below, nearest_above, curve_at}
use Rattle.floor_one.specs.CurveLaws.{CurveMeetsPoints}
use Rattle.floor_one.proofs.Nearest.{nearest_below_is}

flat : (d x w : ℕ) → d * (x - x) / w ≡ 0
flat d x w = let e : d * (x - x) ≡ 0 = (let z : x - x ≡ 0 = omega arith in rw z (mul-zero d)) in rw e (zero-div w)

either_way : (b : Bool) (y : ℤ) → cond b (y -ℤ pos 0) (y +ℤ pos 0) ≡ y
either_way true y = omega (arith, ints)
either_way false y = omega (arith, ints)

-- a straight line begins at its first point
begins : (x0 : ℕ) (y0 : ℤ) (x1 : ℕ) (y1 : ℤ) → render_point x0 y0 x1 y1 x0 ≡ y0
unfolding render_point
begins x0 y0 x1 y1 = rw (flat (unsigned_abs (y1 -ℤ y0)) x0 (x1 - x0)) (either_way (int_lt y1 y0) y0)

behind_none : (floor : FloorSetup) (finals : List Final) (i : ℕ) (high : Option ℕ) → height_between floor finals (get_or floor.x_values i 0) (Some i) high ≡ height_of floor finals i
behind_none floor finals i None = refl
behind_none floor finals i (Some h) = begins (get_or floor.x_values i 0) (height_of floor finals i) (get_or floor.x_values h 0) (height_of floor finals h)

pub meets : CurveMeetsPoints
unfolding curve_at
meets floor finals i points lt flagged =
    let x = get_or floor.x_values i 0 in
    let counts : ℕ → Bool = λ n. (final_of finals n).flagged in
    let below : nearest_below floor.x_values counts (x + 1) ≡ Some i =
    nearest_below_is floor.x_values counts (x + 1) i points.apart lt flagged (omega arith)
    (λ m l c. elim (cases_lt x (get_or floor.x_values m 0)) [ inl more ↦ inr (omega arith) | inr less ↦ inl less ]) in
    ap decibel_number (ap (λ low. height_between floor finals x low (nearest_above floor.x_values counts x)) below ∙ behind_none floor finals i (nearest_above floor.x_values counts x))
