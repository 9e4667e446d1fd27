-- How large the sums are.
use Rattle.std.proofs.Common.{ℕ, zero, suc, ◌+◌, ◌*◌, ◌≤◌, arith, ℤ, pos, negsuc, ◌+ℤ◌, ◌*ℤ◌, unsigned_abs}
use Rattle.std.proofs.Math.IntN.{sub_ℕ}
use Rattle.std.proofs.Math.Nat.{mul-le-mul, le_trans}
use Rattle.std.proofs.lemmas.Int.{unsigned_abs-mul}
use Rattle.std.proofs.lemmas.Bool.Decides.{nat_tests}
use Rattle.model_synthesis.specs.Transform.{sum_below}

abs_sub : (a b : ℕ) → unsigned_abs (sub_ℕ a b) ≤ a + b
abs_sub a b = grind (arith, nat_tests)

abs-add : (a b : ℤ) → unsigned_abs (a +ℤ b) ≤ unsigned_abs a + unsigned_abs b
abs-add (pos a) (pos b) = omega arith
abs-add (negsuc a) (negsuc b) = omega arith
abs-add (pos a) (negsuc b) = abs_sub a (suc b)
abs-add (negsuc a) (pos b) = le_trans (abs_sub b (suc a)) (omega arith)

pub sum_bound : (n m : ℕ) (f : ℕ → ℤ) → ((k : ℕ) → unsigned_abs (f k) ≤ m) → unsigned_abs (sum_below n f) ≤ n * m
sum_bound zero m f h = omega arith
sum_bound (suc n) m f h =
    let front : unsigned_abs (sum_below n f) ≤ n * m = sum_bound n m f h in
    let last : unsigned_abs (f n) ≤ m = h n in
    omega (arith, abs-add (sum_below n f) (f n))

pub product_bound : (a b : ℤ) (m n : ℕ) → unsigned_abs a ≤ m → unsigned_abs b ≤ n → unsigned_abs (a *ℤ b) ≤ m * n
product_bound a b m n ha hb = rw unsigned_abs-mul (mul-le-mul ha hb)
