-- Powers of two in the tests: sizes of blocks, and of halves of them.
use Rattle.std.proofs.Common.{◌≡◌, refl, ℕ, ◌*◌, ◌/◌, ◌%◌, ◌^◌, ◌≤◌, arith, Bool, true, false}
use Rattle.std.specs.Bool.{OnTrue}
use Rattle.std.proofs.lemmas.Nat.{one_shl}
use Rattle.std.proofs.Math.Nat.{pow-le-pow_right}
use Rattle.model_setup.specs.HeaderPackets.{IsBlockSize}
use Rattle.model_synthesis.proofs.BlockSizes.{block_size_even}

-- twice the half of a power of two
pub halves_are : (e n : ℕ) → 6 ≤ e → e ≤ 13 → n ≡ 1 * 2 ^ e % 65536 / 2 → IsBlockSize (2 * n)
halves_are e n low high is =
    let whole : 1 * 2 ^ e % 65536 ≡ 2 ^ e = one_shl e 16 (omega arith) in
    let size : IsBlockSize (2 ^ e) = record { exponent = e; at_least_64 = low; at_most_8192 = high; is_power = refl } in
    let even : 2 ^ e % 2 ≡ 0 = block_size_even (2 ^ e) size in
    record { exponent = e; at_least_64 = low; at_most_8192 = high; is_power = omega arith }

-- the size of a block is at least that of a short one
pub sizes_in_order : (is_long : Bool) (short size n : ℕ) → short ≤ size → size ≤ 13 → n ≡ 1 * 2 ^ size % 65536 → OnTrue is_long (1 * 2 ^ short % 4294967296 ≤ n)
sizes_in_order is_long short size n order most is =
    let whole : 1 * 2 ^ size % 65536 ≡ 2 ^ size = one_shl size 16 (omega arith) in
    let whole' : 1 * 2 ^ short % 4294967296 ≡ 2 ^ short = one_shl short 32 (omega arith) in
    let less : 2 ^ short ≤ 2 ^ size = pow-le-pow_right (omega arith) order in
    on is_long (omega arith)
  where
    on : {P : Type 0} (b : Bool) → P → OnTrue b P
    on true p = p
    on false p = tt
