-- The flags of the passes in which a class has a book.
use Rattle.std.proofs.Common.{◌≡◌, ℕ, ◌^◌, ◌<◌, ◌≤◌, List, [], ◌∷◌, length, drop, Option, is_some, Bool, true, false, arith, length-drop}
use Rattle.std.proofs.Math.Nat.{pow-succ'}
use Rattle.std.proofs.Math.Pow.{pow_mono}
use Rattle.model_bits.specs.Bits.{bit_value}
use Rattle.model_writing.specs.SetupWriting.{pass_flags}

bit_small : (b : Bool) → bit_value b ≤ 1
bit_small true = omega arith
bit_small false = omega arith

flags_small : (books : List (Option ℕ)) → pass_flags books < 2 ^ length books
flags_small [] = omega arith
flags_small (book ∷ books) = omega (arith, flags_small books, bit_small (is_some book), pow-succ' 2 (length books))

pub flags_below : (books : List (Option ℕ)) (n : ℕ) → length books ≡ 8 → pass_flags (drop n books) < 256
flags_below books n long =
    let few : length (drop n books) ≤ 8 = omega (arith, length-drop n books) in
    let p : 2 ^ length (drop n books) ≤ 2 ^ 8 = pow_mono few in
    omega (arith, p, flags_small (drop n books))
