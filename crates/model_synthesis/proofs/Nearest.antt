-- A sample is the nearest to its value.
use Rattle.std.proofs.Common.{pos, ◌+ℤ◌, ◌*ℤ◌, ◌≤ℤ◌, arith}
use Rattle.std.proofs.lemmas.Int.{ints, clamps}
use Rattle.std.specs.Prelude.{◌<ℤ◌}
use Rattle.model_fixed.specs.Fixed.{shift_down}
use Rattle.model_fixed.proofs.Rounding.{shift_rounds}
use Rattle.model_synthesis.specs.WindowLaws.{SamplesHave16Bits, SamplesAreNearest}

pub samples_have_16_bits : SamplesHave16Bits
samples_have_16_bits = λ v. (omega (arith, ints, clamps), omega (arith, ints, clamps))

pub samples_are_nearest : SamplesAreNearest
samples_are_nearest = λ v.
    let low : (shift_down (v +ℤ pos 16) 5 *ℤ pos 32) ≤ℤ (v +ℤ pos 16) = (shift_rounds (v +ℤ pos 16) 5).0 in
    let high : (v +ℤ pos 16) <ℤ ((shift_down (v +ℤ pos 16) 5 +ℤ pos 1) *ℤ pos 32) = (shift_rounds (v +ℤ pos 16) 5).1 in (
      λ above below. (omega (arith, ints, clamps), omega (arith, ints, clamps)),
      λ past. omega (arith, ints, clamps),
      λ past. omega (arith, ints, clamps),
    )
