-- How large sums and their quotients are.
use Rattle.std.proofs.Common.{◌≡◌, ℕ, suc, ◌+◌, ◌*◌, ◌/◌, ◌^◌, ◌<◌, ◌≤◌, ℤ, pos, negsuc, ◌+ℤ◌, ◌*ℤ◌, unsigned_abs, arith}
use Rattle.std.specs.Int.{int_shr}
use Rattle.std.proofs.lemmas.Int.{unsigned_abs-mul}
use Rattle.std.proofs.lemmas.Bool.Decides.{nat_tests}
use Rattle.std.proofs.Math.IntN.{sub_ℕ}
use Rattle.std.proofs.Math.Nat.{mul-le-mul, le_trans, div-le_of_le-mul, div-lt_iff_lt-mul, mul_comm}
use Rattle.std.proofs.lemmas.Nat.{pow_pos}

abs_sub : (a b : ℕ) → unsigned_abs (sub_ℕ a b) ≤ a + b
abs_sub a b = grind (arith, nat_tests)

pub unsigned_abs-+ℤ : (a b : ℤ) → unsigned_abs (a +ℤ b) ≤ unsigned_abs a + unsigned_abs b
unsigned_abs-+ℤ (pos a) (pos b) = omega arith
unsigned_abs-+ℤ (negsuc a) (negsuc b) = omega arith
unsigned_abs-+ℤ (pos a) (negsuc b) = abs_sub a (suc b)
unsigned_abs-+ℤ (negsuc a) (pos b) = le_trans (abs_sub b (suc a)) (omega arith)

-- a sum of k products is at most k times as large as each of them
pub more_small : (k m n : ℕ) (sum a b : ℤ) → unsigned_abs sum ≤ k * (m * n) → unsigned_abs a ≤ m → unsigned_abs b ≤ n → unsigned_abs (sum +ℤ a *ℤ b) ≤ (k + 1) * (m * n)
more_small k m n sum a b hs ha hb =
    let product : unsigned_abs a * unsigned_abs b ≤ m * n = mul-le-mul ha hb in
    let size : unsigned_abs (a *ℤ b) ≡ unsigned_abs a * unsigned_abs b = unsigned_abs-mul a b in
    let both : unsigned_abs (sum +ℤ a *ℤ b) ≤ unsigned_abs sum + unsigned_abs (a *ℤ b) = unsigned_abs-+ℤ sum (a *ℤ b) in
    omega arith

pub quotient_small : (z : ℤ) (m k : ℕ) → unsigned_abs z ≤ m * 2 ^ k → unsigned_abs (int_shr z k) ≤ m
quotient_small (pos n) m k h =
    let turned : n ≤ 2 ^ k * m = omega (arith, h, mul_comm m (2 ^ k)) in
    div-le_of_le-mul (2 ^ k) turned
quotient_small (negsuc n) m k h =
    let some : 0 < 2 ^ k = pow_pos k in
    let below : n / 2 ^ k < m = (div-lt_iff_lt-mul some).1 (omega arith) in
    omega arith
