-- The definitions on small values.
use Rattle.std.proofs.Common.{◌≡◌, refl, pos, negsuc, neg_ℤ, ◌*◌, ◌^◌}
use Rattle.model_fixed.specs.Fixed.{clamp, shift_down, fix}

rounds_down : shift_down (negsuc 4) 1 ≡ negsuc 2
rounds_down = refl

limits : clamp 8 (negsuc 8) ≡ negsuc 7
limits = refl

-- 1/4 of 2 ^ 16
quarter : fix 1 0x62400001 ≡ pos 16384
unfolding fix
quarter = refl

below : fix 3 0xe2400001 ≡ neg_ℤ (pos (3 * 16384))
unfolding fix
below = refl

-- the least number below zero is rounded down
tiny_negative : fix 1 0x80000001 ≡ negsuc 0
unfolding fix
tiny_negative = refl

huge : fix 1 0x7fffffff ≡ pos (2 ^ 32)
unfolding fix
huge = refl

huge_negative : fix 65535 0xffffffff ≡ neg_ℤ (pos (2 ^ 32))
unfolding fix
huge_negative = refl
