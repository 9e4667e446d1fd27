-- The number of bits of small numbers.
use Rattle.std.proofs.Common.{ℕ, ◌-◌, ◌^◌, ◌<◌, ◌≤◌, inl, inr, arith}
use Rattle.std.specs.Int.Count.{count_leading_zeros}
use Rattle.std.proofs.lemmas.Bool.{cases_lt}
use Rattle.std.proofs.lemmas.Nat.{leading_top}
use Rattle.std.proofs.Math.Pow.{pow_mono}

pub few_bits : (n : ℕ) → 0 < n → n < 2 ^ 8 → 32 - count_leading_zeros 32 n ≤ 8
few_bits n some few =
    let top = leading_top 32 n some (omega arith) in
    elim (cases_lt top.0 8) [
      | inl less ↦ omega (arith, top.1)
      | inr more ↦
          let p : 2 ^ 8 ≤ 2 ^ top.0 = pow_mono more in
          absurd (omega (arith, top.2))
    ]
