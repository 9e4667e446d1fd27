-- The bits of a packet, and what is left of them for a reader (Vorbis I, section 2).
use Rattle.std.specs.Prelude.{ℕ, zero, suc, ◌+◌, ◌*◌, ◌/◌, ◌%◌, List, [], ◌∷◌, ◌++◌, length, take, drop, Option, Some, None, Bool, true, false, ◌==◌, nat_lt, if◌then◌else◌}

-- the lowest bits of a number, the lowest first
abbrev pub bits_of_number : ℕ → ℕ → List Bool
bits_of_number zero n = []
bits_of_number (suc count) n = (n % 2 == 1) ∷ bits_of_number count (n / 2)

-- the bits of bytes, of each byte the lowest first (Vorbis I, section 2.1.4)
abbrev pub bits_of : List ℕ → List Bool
bits_of [] = []
bits_of (byte ∷ bytes) = bits_of_number 8 byte ++ bits_of bytes

abbrev pub bit_value : Bool → ℕ
bit_value true = 1
bit_value false = 0

-- the number of which these are the bits, the lowest first
abbrev pub number_of : List Bool → ℕ
number_of [] = 0
number_of (bit ∷ bits) = bit_value bit + 2 * number_of bits

-- a reader of a packet: how many bits the packet has, and which are left. After the end of the
-- packet was met, none are left: everything that is read then is the end.
pub record BitReader : Type 0 where
  pub total : ℕ
  pub left : List Bool

-- the next bits as a number, and what is left after them; none at the end of the packet,
-- which is where fewer are left than are wanted (Vorbis I, sections 2.1.6 to 2.1.8)
abbrev pub take_bits : ℕ → List Bool → Option (ℕ × List Bool)
take_bits count left =
    if nat_lt (length left) count
    then None
    else Some (number_of (take count left), drop count left)
