-- Heights of points and of lines between them.
use Rattle.std.proofs.Common.{◌≡◌, ℕ, ◌-◌, ◌*◌, ◌/◌, ◌^◌, ◌<◌, ◌≤◌, ℤ, pos, Bool, ◌+ℤ◌, unsigned_abs, true, false, ap, sym, ◌∙◌, arith, w64, to_z, of_z}
use Rattle.std.specs.Prelude.{◌-ℤ◌, int_lt, if◌then◌else◌}
use Rattle.std.proofs.lemmas.Int.{ints}
use Rattle.std.proofs.Math.Nat.{mul-le-mul_left, div-le_of_le-mul}
use Rattle.model_setup.specs.FloorCurve.{render_point}

lowered : (height y range : ℤ) → unsigned_abs height ≤ 2 ^ 24 → unsigned_abs y ≤ 2 ^ 24 → unsigned_abs range ≤ 2 ^ 8
    → to_z w64 (of_z w64 (to_z w64 (of_z w64 (to_z w64 (of_z w64 (to_z w64 (of_z w64 height) -ℤ to_z w64 (of_z w64 y))) +ℤ to_z w64 (of_z w64 (to_z w64 (of_z w64 range) -ℤ to_z w64 (of_z w64 height))))) -ℤ pos 1))
    ≡ ((height -ℤ y) +ℤ (range -ℤ height)) -ℤ pos 1
lowered height y range a b c = omega (arith, ints)

room_fits : (height range : ℤ) → unsigned_abs height ≤ 2 ^ 24 → unsigned_abs range ≤ 2 ^ 8 → to_z w64 (of_z w64 (to_z w64 (of_z w64 range) -ℤ to_z w64 (of_z w64 height))) ≡ range -ℤ height
room_fits height range a b = omega (arith, ints)

height_fits : (height : ℤ) → unsigned_abs height ≤ 2 ^ 24 → to_z w64 (of_z w64 height) ≡ height
height_fits height a = omega (arith, ints)

abbrev past : ℤ → ℤ → ℤ → ℤ
past height y range = if int_lt height (range -ℤ height) then (y -ℤ height) +ℤ height else ((height -ℤ y) +ℤ (range -ℤ height)) -ℤ pos 1

-- the height past the upper room, as 64 bits do it
pub lowered_past : (height y range : ℤ) (m n : ℕ) → unsigned_abs height ≤ 2 ^ 24 → y ≡ pos m → range ≡ pos n → m < 2 ^ 24 → n ≤ 256
    → int_lt (to_z w64 (of_z w64 height)) (to_z w64 (of_z w64 (to_z w64 (of_z w64 range) -ℤ to_z w64 (of_z w64 height)))) ≡ false
    → to_z w64 (of_z w64 (to_z w64 (of_z w64 (to_z w64 (of_z w64 (to_z w64 (of_z w64 height) -ℤ to_z w64 (of_z w64 y))) +ℤ to_z w64 (of_z w64 (to_z w64 (of_z w64 range) -ℤ to_z w64 (of_z w64 height))))) -ℤ pos 1))
    ≡ (if int_lt height (pos n -ℤ height) then (pos m -ℤ height) +ℤ height else ((height -ℤ pos m) +ℤ (pos n -ℤ height)) -ℤ pos 1)
lowered_past height y range m n a e f k l h =
    let b : unsigned_abs y ≤ 2 ^ 24 = omega (arith, ints) in
    let c : unsigned_abs range ≤ 2 ^ 8 = omega (arith, ints) in
    let t : int_lt height (range -ℤ height) ≡ false = sym (ap (λ z. int_lt z (range -ℤ height)) (height_fits height a)) ∙ sym (ap (λ z. int_lt (to_z w64 (of_z w64 height)) z) (room_fits height range a c)) ∙ h in
    lowered height y range a b c ∙ sym (ap (λ v. if v then (y -ℤ height) +ℤ height else ((height -ℤ y) +ℤ (range -ℤ height)) -ℤ pos 1) t) ∙ ap (λ z. past height z range) e ∙ ap (past height (pos m)) f

-- a part of a rise is no more than the rise
pub part_of_rise : (rise a b : ℕ) → a ≤ b → rise * a / b ≤ rise
part_of_rise rise a b le =
    let m : rise * a ≤ rise * b = mul-le-mul_left rise le in
    div-le_of_le-mul b (omega arith)

pub rise_is : (y0 y1 : ℤ) (rise : ℕ) → unsigned_abs y0 ≤ 2 ^ 27 → unsigned_abs y1 ≤ 2 ^ 27 → rise ≡ unsigned_abs (to_z w64 (of_z w64 (to_z w64 (of_z w64 y1) -ℤ to_z w64 (of_z w64 y0)))) → rise ≡ unsigned_abs (y1 -ℤ y0)
rise_is y0 y1 rise a b h = omega (arith, ints)

pub fallen : (y0 : ℤ) (part : ℕ) → unsigned_abs y0 ≤ 2 ^ 27 → part ≤ 2 ^ 28 → to_z w64 (of_z w64 (to_z w64 (of_z w64 y0) -ℤ to_z w64 part)) ≡ y0 -ℤ pos part
fallen y0 part a b = omega (arith, ints)

pub risen : (y0 : ℤ) (part : ℕ) → unsigned_abs y0 ≤ 2 ^ 27 → part ≤ 2 ^ 28 → to_z w64 (of_z w64 (to_z w64 (of_z w64 y0) +ℤ to_z w64 part)) ≡ y0 +ℤ pos part
risen y0 part a b = omega (arith, ints)

-- the line, where it falls and where it doesn't
pub line_falls : (x0 : ℕ) (y0 : ℤ) (x1 : ℕ) (y1 : ℤ) (x : ℕ) → int_lt y1 y0 ≡ true → render_point x0 y0 x1 y1 x ≡ y0 -ℤ pos (unsigned_abs (y1 -ℤ y0) * (x - x0) / (x1 - x0))
unfolding render_point
line_falls x0 y0 x1 y1 x h = ap (λ v. if v then y0 -ℤ pos (unsigned_abs (y1 -ℤ y0) * (x - x0) / (x1 - x0)) else y0 +ℤ pos (unsigned_abs (y1 -ℤ y0) * (x - x0) / (x1 - x0))) h

pub line_rises : (x0 : ℕ) (y0 : ℤ) (x1 : ℕ) (y1 : ℤ) (x : ℕ) → int_lt y1 y0 ≡ false → render_point x0 y0 x1 y1 x ≡ y0 +ℤ pos (unsigned_abs (y1 -ℤ y0) * (x - x0) / (x1 - x0))
unfolding render_point
line_rises x0 y0 x1 y1 x h = ap (λ v. if v then y0 -ℤ pos (unsigned_abs (y1 -ℤ y0) * (x - x0) / (x1 - x0)) else y0 +ℤ pos (unsigned_abs (y1 -ℤ y0) * (x - x0) / (x1 - x0))) h

test_is : (y0 y1 : ℤ) (b : Bool) → unsigned_abs y0 ≤ 2 ^ 27 → unsigned_abs y1 ≤ 2 ^ 27 → int_lt (to_z w64 (of_z w64 y1)) (to_z w64 (of_z w64 y0)) ≡ b → int_lt y1 y0 ≡ b
test_is y0 y1 b p q h =
    let e0 : to_z w64 (of_z w64 y0) ≡ y0 = omega (arith, ints) in
    let e1 : to_z w64 (of_z w64 y1) ≡ y1 = omega (arith, ints) in
    sym (ap (λ z. int_lt z y0) e1) ∙ sym (ap (λ z. int_lt (to_z w64 (of_z w64 y1)) z) e0) ∙ h

fallen_small : (y0 y1 : ℤ) (part n : ℕ) → int_lt y1 y0 ≡ true → part ≤ unsigned_abs (y1 -ℤ y0) → unsigned_abs y0 ≤ n → unsigned_abs y1 ≤ n → unsigned_abs (y0 -ℤ pos part) ≤ n
fallen_small y0 y1 part n t p a b = grind (arith, ints)

risen_small : (y0 y1 : ℤ) (part n : ℕ) → int_lt y1 y0 ≡ false → part ≤ unsigned_abs (y1 -ℤ y0) → unsigned_abs y0 ≤ n → unsigned_abs y1 ≤ n → unsigned_abs (y0 +ℤ pos part) ≤ n
risen_small y0 y1 part n t p a b = grind (arith, ints)

module _ (x0 : ℕ) (y0 : ℤ) (x1 : ℕ) (y1 : ℤ) (x : ℕ) (rise along width : ℕ) (low : unsigned_abs y0 ≤ 2 ^ 27) (high : unsigned_abs y1 ≤ 2 ^ 27) (behind : x0 ≤ x) (before : x ≤ x1)
    (risen_by : rise ≡ unsigned_abs (to_z w64 (of_z w64 (to_z w64 (of_z w64 y1) -ℤ to_z w64 (of_z w64 y0))))) (along_is : along ≡ x - x0) (width_is : width ≡ x1 - x0) where
  part_is : rise * along / width ≡ unsigned_abs (y1 -ℤ y0) * (x - x0) / (x1 - x0)
  part_is = ap (λ n. n * along / width) (rise_is y0 y1 rise low high risen_by) ∙ ap (λ n. unsigned_abs (y1 -ℤ y0) * n / width) along_is ∙ ap (λ n. unsigned_abs (y1 -ℤ y0) * (x - x0) / n) width_is

  part_small : rise * along / width ≤ unsigned_abs (y1 -ℤ y0)
  part_small = rw (← rise_is y0 y1 rise low high risen_by) (part_of_rise rise along width (omega arith))

  pub falls : int_lt (to_z w64 (of_z w64 y1)) (to_z w64 (of_z w64 y0)) ≡ true → to_z w64 (of_z w64 (to_z w64 (of_z w64 y0) -ℤ to_z w64 (rise * along / width))) ≡ render_point x0 y0 x1 y1 x
  falls h =
      let s = part_small in
      fallen y0 (rise * along / width) low (omega (arith, ints)) ∙ ap (λ n. y0 -ℤ pos n) part_is ∙ sym (line_falls x0 y0 x1 y1 x (test_is y0 y1 true low high h))

  pub rises : int_lt (to_z w64 (of_z w64 y1)) (to_z w64 (of_z w64 y0)) ≡ false → to_z w64 (of_z w64 (to_z w64 (of_z w64 y0) +ℤ to_z w64 (rise * along / width))) ≡ render_point x0 y0 x1 y1 x
  rises h =
      let s = part_small in
      risen y0 (rise * along / width) low (omega (arith, ints)) ∙ ap (λ n. y0 +ℤ pos n) part_is ∙ sym (line_rises x0 y0 x1 y1 x (test_is y0 y1 false low high h))

  pub falls_small : int_lt (to_z w64 (of_z w64 y1)) (to_z w64 (of_z w64 y0)) ≡ true → (n : ℕ) → unsigned_abs y0 ≤ n → unsigned_abs y1 ≤ n → unsigned_abs (to_z w64 (of_z w64 (to_z w64 (of_z w64 y0) -ℤ to_z w64 (rise * along / width)))) ≤ n
  falls_small h n a b =
      let s = part_small in
      let e = fallen y0 (rise * along / width) low (omega (arith, ints)) in
      rw e (fallen_small y0 y1 (rise * along / width) n (test_is y0 y1 true low high h) s a b)

  pub rises_small : int_lt (to_z w64 (of_z w64 y1)) (to_z w64 (of_z w64 y0)) ≡ false → (n : ℕ) → unsigned_abs y0 ≤ n → unsigned_abs y1 ≤ n → unsigned_abs (to_z w64 (of_z w64 (to_z w64 (of_z w64 y0) +ℤ to_z w64 (rise * along / width)))) ≤ n
  rises_small h n a b =
      let s = part_small in
      let e = risen y0 (rise * along / width) low (omega (arith, ints)) in
      rw e (risen_small y0 y1 (rise * along / width) n (test_is y0 y1 false low high h) s a b)
