-- A mixed value lies between the two that it is made of.
use Rattle.std.proofs.Common.{◌≡◌, ℕ, zero, suc, ◌+◌, ◌-◌, ◌*◌, ◌/◌, ◌^◌, ◌≤◌, ◌<◌, ℤ, pos, negsuc, ◌+ℤ◌, ◌*ℤ◌, ◌≤ℤ◌, ap, subst, ◌∙◌, arith}
use Rattle.std.specs.Prelude.{◌<ℤ◌}
use Rattle.std.specs.Int.{int_min, int_max}
use Rattle.std.proofs.lemmas.Int.{ints, clamps, by_lt_z}
use Rattle.std.proofs.lemmas.Nat.{pow_pos, mul-le}
use Rattle.std.proofs.Math.Nat.{mul-le-mul_right, mul-add, div-le_of_le-mul}
use Rattle.model_fixed.specs.Fixed.{shift_down}
use Rattle.model_fixed.proofs.Rounding.{shift_rounds}
use Rattle.model_synthesis.specs.Tables.{ConstantTables, slope}
use Rattle.model_cursor.specs.Splices.{weight, mixed}
use Rattle.model_cursor.specs.SpliceLaws.{WeightsAreParts, MixedLiesBetween, EqualSidesStay}

-- ---- products

-- the larger number has the larger product
larger : (n : ℕ) (a b : ℤ) → a ≤ℤ b → (a *ℤ pos n) ≤ℤ (b *ℤ pos n)
larger n (pos a) (pos b) h =
    let within : a ≤ b = omega (arith, ints) in
    let le : a * n ≤ b * n = mul-le-mul_right n within in omega (arith, ints)
larger n (pos a) (negsuc b) h = absurd (omega (arith, ints))
larger n (negsuc a) (pos b) h = omega (arith, ints)
larger n (negsuc a) (negsuc b) h =
    let within : b ≤ a = omega (arith, ints) in
    let le : b * n ≤ a * n = mul-le-mul_right n within in omega (arith, ints)

-- the next number has the product that is larger by one
next : (n : ℕ) (a : ℤ) → (a +ℤ pos 1) *ℤ pos n ≡ (a *ℤ pos n) +ℤ pos n
next n (pos a) = omega (arith, ints)
next n (negsuc zero) = omega (arith, ints)
next n (negsuc (suc a)) =
    let less : negsuc (suc a) +ℤ pos 1 ≡ negsuc a = omega (arith, ints) in
    ap (λ (z : ℤ). z *ℤ pos n) less ∙ omega (arith, ints)

-- the products with two parts are the product with the whole
parts : (m n : ℕ) (a : ℤ) → (a *ℤ pos m) +ℤ (a *ℤ pos n) ≡ a *ℤ pos (m + n)
parts m n (pos a) = let e : a * (m + n) ≡ a * m + a * n = mul-add a m n in omega (arith, ints)
parts m n (negsuc a) = let e : a * (m + n) ≡ a * m + a * n = mul-add a m n in omega (arith, ints)

-- ---- a number between two products

-- what is at least a product, and below the one of the next number, is at least its number
at_least : (n : ℕ) (a q z : ℤ) → (a *ℤ pos n) ≤ℤ z → z <ℤ ((q +ℤ pos 1) *ℤ pos n) → a ≤ℤ q
at_least n a q z low high = by_lt_z q a
    (λ less. let up : ((q +ℤ pos 1) *ℤ pos n) ≤ℤ (a *ℤ pos n) = larger n (q +ℤ pos 1) a (omega (arith, ints)) in absurd (omega (arith, ints)))
    (λ le. le)

-- and a number whose product is at most another one's is no larger
at_most : (n : ℕ) (b q : ℤ) → 0 < n → (q *ℤ pos n) ≤ℤ (b *ℤ pos n) → q ≤ℤ b
at_most n b q some le = by_lt_z b q
    (λ less.
    let up : ((b +ℤ pos 1) *ℤ pos n) ≤ℤ (q *ℤ pos n) = larger n (b +ℤ pos 1) q (omega (arith, ints)) in
    let more = next n b in absurd (omega (arith, ints)))
    (λ within. within)

-- ---- mixed values

-- two parts of a whole, at most so large and at least so large
between : (m n : ℕ) (a b old new : ℤ) → a ≤ℤ old → a ≤ℤ new → old ≤ℤ b → new ≤ℤ b
    → let z = (new *ℤ pos m) +ℤ (old *ℤ pos n) in ((a *ℤ pos (m + n)) ≤ℤ z) × (z ≤ℤ (b *ℤ pos (m + n)))
between m n a b old new ao an ob nb =
    let low_new = larger m a new an in
    let low_old = larger n a old ao in
    let high_new = larger m new b nb in
    let high_old = larger n old b ob in
    let low = parts m n a in
    let high = parts m n b in
    (omega (arith, ints), omega (arith, ints))

-- the value for each weight that is a part of the whole
pub mixed_within : (tables : ConstantTables) (w : ℕ) (a b old new : ℤ) → w ≤ 2 ^ tables.scale → a ≤ℤ old → a ≤ℤ new → old ≤ℤ b → new ≤ℤ b
    → (a ≤ℤ mixed tables w old new) × (mixed tables w old new ≤ℤ b)
mixed_within tables w a b old new part ao an ob nb =
    let rest : ℕ = 2 ^ tables.scale - w in
    let whole : w + rest ≡ 2 ^ tables.scale = omega arith in
    let z : ℤ = (new *ℤ pos w) +ℤ (old *ℤ pos rest) in
    let both = between w rest a b old new ao an ob nb in
    let low : (a *ℤ pos (2 ^ tables.scale)) ≤ℤ z = subst (λ (n : ℕ). (a *ℤ pos n) ≤ℤ z) whole both.0 in
    let high : z ≤ℤ (b *ℤ pos (2 ^ tables.scale)) = subst (λ (n : ℕ). z ≤ℤ (b *ℤ pos n)) whole both.1 in
    let down = shift_rounds z tables.scale in (
      at_least (2 ^ tables.scale) a (shift_down z tables.scale) z low down.1,
      at_most (2 ^ tables.scale) b (shift_down z tables.scale) (pow_pos tables.scale) (omega (arith, ints)),
    )

pub weights_are_parts : WeightsAreParts
weights_are_parts = λ tables frames i is. square (2 ^ tables.scale) (slope tables frames i) (is.slopes _)
  where
    square : (one s : ℕ) → s ≤ one → s * s / one ≤ one
    square one s h = div-le_of_le-mul one (mul-le s s one one h h)

pub mixed_lies_between : MixedLiesBetween
mixed_lies_between = λ tables frames i old new is.
    mixed_within tables (weight tables frames i) (int_min old new) (int_max old new) old new (weights_are_parts tables frames i is)
    (omega (arith, ints, clamps)) (omega (arith, ints, clamps)) (omega (arith, ints, clamps)) (omega (arith, ints, clamps))

pub equal_sides_stay : EqualSidesStay
equal_sides_stay = λ tables frames i value is.
    let both = mixed_within tables (weight tables frames i) value value value value (weights_are_parts tables frames i is)
    (omega (arith, ints)) (omega (arith, ints)) (omega (arith, ints)) (omega (arith, ints)) in
    omega (arith, ints)
