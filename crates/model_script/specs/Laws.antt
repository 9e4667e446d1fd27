-- What holds of every script.
use Rattle.std.specs.Prelude.{◌≡◌, ℕ, ◌^◌, ◌<◌, ◌↔◌, IsTrue, List}
use Rattle.std.specs.Fmt.{decimal}
use Rattle.model_script.specs.Lines.{is_number, value_of}

-- A word is a number where it is how a number below 2^64 is written, and it is that number.
abbrev pub NumbersAreWritten : Type 0
NumbersAreWritten = (word : List ℕ)
    → IsTrue (is_number word) ↔ ((value_of word < 2 ^ 64) × (word ≡ decimal (value_of word)))
