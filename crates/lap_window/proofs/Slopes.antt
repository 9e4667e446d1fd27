-- The sizes of slopes, and the forms of windows.
use Rattle.std.proofs.Common.{◌≡◌, ℕ, zero, suc, ◌-◌, ◌*◌, ◌/◌, ◌^◌, ◌<◌, ◌≤◌, ◌∙◌, sym, ap, Bool, true, false, arith}
use Rattle.std.proofs.Math.Nat.{pow-succ'}
use Rattle.model_setup.specs.HeaderPackets.{IsBlockSize}
use Rattle.std.specs.Bool.{OnTrue}
use Rattle.model_synthesis.specs.Tables.{IsSlopeSize}
use Rattle.model_synthesis.specs.Windows.{side_size, window_form, IsWindowForm}

halved : (e : ℕ) → 0 < e → 2 ^ e / 2 ≡ 2 ^ (e - 1)
halved zero h = absurd (omega arith)
halved (suc e) h =
    let whole : 2 ^ suc e ≡ 2 * 2 ^ e = pow-succ' 2 e in
    let less : suc e - 1 ≡ e = omega arith in
    let half : 2 ^ suc e / 2 ≡ 2 ^ e = omega arith in
    half ∙ ap (λ n. 2 ^ n) (sym less)

-- a slope of a block of a size is half as long
pub slope_size : (size : ℕ) → IsBlockSize size → IsSlopeSize (size / 2)
slope_size size is =
    let low : 6 ≤ is.exponent = is.at_least_64 in
    let high : is.exponent ≤ 13 = is.at_most_8192 in
    record {
      exponent = is.exponent - 1;
      at_least_32 = omega arith;
      at_most_4096 = omega arith;
      is_power = ap (λ n. n / 2) is.is_power ∙ halved is.exponent (omega arith);
    }

-- the size of the blocks whose slope a block has on a side
record IsSide (size side : ℕ) : Type 0 where
  is : IsBlockSize side
  within : side ≤ size

is_side : (short : ℕ) (is_long neighbour : Bool) (size : ℕ) → IsBlockSize short → IsBlockSize size → OnTrue is_long (short ≤ size) → IsSide size (side_size short is_long neighbour size)
is_side short false neighbour size short-is size-is within = record { is = size-is; within = omega arith }
is_side short true true size short-is size-is within = record { is = size-is; within = omega arith }
is_side short true false size short-is size-is within = record { is = short-is; within = within }

pub is_window_form : (short : ℕ) (is_long previous next : Bool) (size : ℕ) → IsBlockSize short → IsBlockSize size → OnTrue is_long (short ≤ size) → IsWindowForm (window_form short is_long previous next size)
is_window_form short is_long previous next size short-is size-is within =
    let left = is_side short is_long previous size short-is size-is within in
    let right = is_side short is_long next size short-is size-is within in
    record {
      size = size-is;
      left = left.is;
      right = right.is;
      left_within = left.within;
      right_within = right.within;
    }
