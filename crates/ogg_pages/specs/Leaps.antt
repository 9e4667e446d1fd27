-- A register as the xor of what its bits come to.
use Rattle.std.specs.Prelude.{ℕ, ◌/◌, ◌%◌, ◌==◌, if◌then◌else◌, List, [], ◌∷◌, bit_xor}

-- the xor of those words whose bit of the register is 1, the lowest bit first
unfoldable pub xor_of_bits : ℕ → List ℕ → ℕ
xor_of_bits register [] = 0
xor_of_bits register (word ∷ words) =
    bit_xor (if register % 2 == 1 then word else 0) (xor_of_bits (register / 2) words)
