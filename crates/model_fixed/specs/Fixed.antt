-- Arithmetic on whole numbers of both signs, and the packed numbers of codebooks.
use Rattle.std.specs.Prelude.{ℕ, ◌-◌, ◌*◌, ◌/◌, ◌%◌, ◌^◌, ℤ, pos, ◌+ℤ◌, ◌*ℤ◌, ◌≤ℤ◌, neg_ℤ, Bool, ◌==◌, nat_le, if◌then◌else◌}
use Rattle.std.specs.Int.{int_shr, int_min, int_max}
use Rattle.std.specs.Prelude.{◌<ℤ◌, ◌≤◌, unsigned_abs}
use Rattle.model_fixed.specs.declared.limits.TheConstants.{VALUE_LIMIT}

-- the number limited to -m .. m
abbrev pub clamp : ℕ → ℤ → ℤ
clamp m z = int_max (neg_ℤ (pos m)) (int_min z (pos m))

-- a value within the limit
abbrev pub IsWithinLimit : ℤ → Type 0
IsWithinLimit v = unsigned_abs v ≤ VALUE_LIMIT

-- the number limited to what a value may be
abbrev pub limited : ℤ → ℤ
limited z = clamp VALUE_LIMIT z

-- the number divided by 2 ^ k, rounded down
abbrev pub shift_down : ℤ → ℕ → ℤ
shift_down z k = int_shr z k

-- the parts of a packed number (Vorbis I, section 9.2.2): the value is its mantissa times
-- 2 ^ (exponent - 788), below zero where the sign bit is set
abbrev pub mantissa : ℕ → ℕ
mantissa packed = packed % 2 ^ 21

abbrev pub exponent : ℕ → ℕ
exponent packed = packed / 2 ^ 21 % 2 ^ 10

abbrev pub is_below_zero : ℕ → Bool
is_below_zero packed = packed / 2 ^ 31 == 1

abbrev pub with_sign : Bool → ℕ → ℤ
with_sign below m = if below then neg_ℤ (pos m) else pos m

-- the number times 2 ^ (e - 772), rounded down
abbrev pub scaled : ℤ → ℕ → ℤ
scaled z e = if nat_le 772 e then z *ℤ pos (2 ^ (e - 772)) else shift_down z (772 - e)

-- in units of 2 ^ -16: the whole number q times the packed number, rounded down and limited as a
-- value is
unfoldable pub fix : ℕ → ℕ → ℤ
fix q packed =
    limited (scaled (with_sign (is_below_zero packed) (q * mantissa packed)) (exponent packed))

-- z divided by 2 ^ k, rounded down, is the whole number r with r * 2 ^ k ≤ z < (r + 1) * 2 ^ k
abbrev pub RoundsDown : Type 0
RoundsDown =
    (z : ℤ) (k : ℕ)
    → ((shift_down z k *ℤ pos (2 ^ k)) ≤ℤ z)
    × (z <ℤ ((shift_down z k +ℤ pos 1) *ℤ pos (2 ^ k)))
