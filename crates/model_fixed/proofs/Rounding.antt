-- A shift of a signed number rounds down.
use Rattle.std.proofs.Common.{◌≡◌, ℕ, zero, suc, ◌+◌, ◌*◌, ◌/◌, ◌%◌, ◌^◌, ◌<◌, ℤ, pos, negsuc, ◌+ℤ◌, ◌*ℤ◌, ◌≤ℤ◌, subst, sym, arith}
use Rattle.std.specs.Prelude.{◌<ℤ◌}
use Rattle.std.proofs.lemmas.Int.{ints}
use Rattle.std.proofs.lemmas.Nat.{pow_pos, mod_below}
use Rattle.std.proofs.Math.Nat.{div-add-mod'}
use Rattle.model_fixed.specs.Fixed.{shift_down}
use lib.Signed.{shr_z}

-- the next multiple above a number below zero
next_up : (q m a r : ℕ) → q * m + r ≡ a → negsuc a <ℤ ((negsuc q +ℤ pos 1) *ℤ pos m)
next_up zero m a r e = omega (arith, ints)
next_up (suc q) m a r e =
    let less : negsuc (suc q) +ℤ pos 1 ≡ negsuc q = omega (arith, ints) in
    let up : negsuc a <ℤ (negsuc q *ℤ pos m) = omega (arith, ints) in
    subst (λ (n : ℤ). negsuc a <ℤ (n *ℤ pos m)) (sym less) up

rounds : (z : ℤ) (m : ℕ) → 0 < m → ((shr_z z m *ℤ pos m) ≤ℤ z) × (z <ℤ ((shr_z z m +ℤ pos 1) *ℤ pos m))
rounds (pos a) m h =
    let d : a / m * m + a % m ≡ a = div-add-mod' a m in
    let r : a % m < m = mod_below a m h in
    (omega (arith, ints), omega (arith, ints))
rounds (negsuc a) m h =
    let d : a / m * m + a % m ≡ a = div-add-mod' a m in
    let r : a % m < m = mod_below a m h in
    (omega (arith, ints), next_up (a / m) m a (a % m) d)

pub shift_rounds : (z : ℤ) (k : ℕ) → ((shift_down z k *ℤ pos (2 ^ k)) ≤ℤ z) × (z <ℤ ((shift_down z k +ℤ pos 1) *ℤ pos (2 ^ k)))
shift_rounds z k = rounds z (2 ^ k) (pow_pos k)
