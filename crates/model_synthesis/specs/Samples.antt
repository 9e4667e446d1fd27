-- Samples of 16 bits.
use Rattle.std.specs.Prelude.{◌-◌, ◌^◌, ℤ, pos, ◌+ℤ◌, neg_ℤ}
use Rattle.std.specs.Int.{int_min, int_max}
use Rattle.model_fixed.specs.Fixed.{shift_down}
use Rattle.model_synthesis.specs.declared.samples.TheConstants.{SAMPLE_SHIFT}

-- The sample that is nearest to a value of a frame, of two that are as near the higher; and the
-- lowest or the highest sample, if the value is past all of them. A value is in units of 2 ^ -20, a
-- sample in units of 2 ^ -15.
abbrev pub pcm : ℤ → ℤ
pcm v =
    int_max (neg_ℤ (pos (2 ^ 15)))
    (int_min (shift_down (v +ℤ pos (2 ^ (SAMPLE_SHIFT - 1))) SAMPLE_SHIFT) (pos (2 ^ 15 - 1)))
