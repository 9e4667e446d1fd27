-- Laws about codewords and lookups, in the words of the standard.
use Rattle.std.specs.Prelude.{◌≡◌, ℕ, ◌+◌, ◌^◌, ◌<◌, ◌≤◌, List, length, Bool, true, false, ◌↔◌}
use Rattle.model_setup.specs.declared.book.Word.{Word}
use Rattle.model_setup.specs.Codewords.{size_of, digits_of, begins_with, begins, look_high, IsPlaced, AreApart}
use Rattle.model_setup.specs.Vectors.{root_of}

-- the word's codeword begins the bits exactly where the number of the next 32 of them is in its
-- interval, and they are enough
abbrev pub BeginsByInterval : Type 0
BeginsByInterval =
    (w : Word) (left : List Bool) → IsPlaced w
    → (begins left w ≡ true) ↔ ((w.len ≤ length left) × (w.start ≤ look_high 32 left)
    × (look_high 32 left < w.start + size_of w.len))

-- no codeword begins another
abbrev pub NeverBegins : Type 0
NeverBegins = (v w : Word) → IsPlaced v → IsPlaced w → AreApart v w
    → begins_with (digits_of v) (digits_of w) ≡ false

-- the root's power is no more than the number, and the next one's is more (Vorbis I, section 9.2.3)
abbrev pub RootIsGreatest : Type 0
RootIsGreatest = (entries dimensions : ℕ) → 0 < dimensions
    → (root_of entries dimensions ^ dimensions ≤ entries)
    × (entries < (root_of entries dimensions + 1) ^ dimensions)
