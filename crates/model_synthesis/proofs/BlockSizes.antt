-- Block sizes are even and not 0.
use Rattle.std.proofs.Common.{◌≡◌, ℕ, zero, suc, ◌-◌, ◌*◌, ◌%◌, ◌^◌, ◌<◌, ◌≤◌, ◌∙◌, ap, arith}
use Rattle.std.proofs.lemmas.Nat.{pow_pos}
use Rattle.std.proofs.Math.Nat.{pow-succ'}
use Rattle.model_setup.specs.HeaderPackets.{IsBlockSize}

power_even : (e : ℕ) → 0 < e → 2 ^ e % 2 ≡ 0
power_even zero h = absurd (omega arith)
power_even (suc e) h = let whole : 2 ^ suc e ≡ 2 * 2 ^ e = pow-succ' 2 e in omega arith

pub block_size_even : (size : ℕ) → IsBlockSize size → size % 2 ≡ 0
block_size_even size is =
    let low : 6 ≤ is.exponent = is.at_least_64 in
    ap (λ n. n % 2) is.is_power ∙ power_even is.exponent (omega arith)

pub block_size_some : (size : ℕ) → IsBlockSize size → 0 < size
block_size_some size is =
    let whole : size ≡ 2 ^ is.exponent = is.is_power in
    let some : 0 < 2 ^ is.exponent = pow_pos is.exponent in
    omega arith

power_in_quarters : (e : ℕ) → 2 ^ suc (suc e) ≡ 4 * 2 ^ e
power_in_quarters e =
    let outer : 2 ^ suc (suc e) ≡ 2 * 2 ^ suc e = pow-succ' 2 (suc e) in
    let inner : 2 ^ suc e ≡ 2 * 2 ^ e = pow-succ' 2 e in
    omega arith

-- the quarter of a block size
pub block_size_in_quarters : (size : ℕ) → IsBlockSize size → (quarter : ℕ) × (size ≡ 4 * quarter)
block_size_in_quarters size is =
    let low : 6 ≤ is.exponent = is.at_least_64 in
    let split : is.exponent ≡ suc (suc (is.exponent - 2)) = omega arith in
    (2 ^ (is.exponent - 2), is.is_power ∙ (ap (λ e. 2 ^ e) split ∙ power_in_quarters (is.exponent - 2)))

pub block_size_quarters : (size : ℕ) → IsBlockSize size → size % 4 ≡ 0
block_size_quarters size is =
    let quarter = (block_size_in_quarters size is).0 in
    let whole : size ≡ 4 * quarter = (block_size_in_quarters size is).1 in
    omega arith
