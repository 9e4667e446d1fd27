-- Words in order of their intervals, and the one that bits begin with.
use Rattle.std.specs.Prelude.{◌≡◌, ℕ, List, drop, Option, Some, None, Bool, true, false, ◌⊎◌}
use Rattle.std.specs.List.{All, Contains}
use Rattle.std.specs.List.Sorted.{IsNonDecreasingBy}
use Rattle.model_setup.specs.declared.book.Word.{Word}
use Rattle.model_setup.specs.Codewords.{begins, AreApart}
use Rattle.codebooks.specs.Free.{claims}

abbrev pub IsRising : List Word → Type 0
IsRising words = IsNonDecreasingBy (λ (w : Word). w.start) words

-- two words are the same, or no number is both's
abbrev pub SameOrApart : List Word → Type 0
SameOrApart words = (v w : Word) → Contains words v → Contains words w → (v ≡ w) ⊎ AreApart v w

-- the word of these that has a number, or none has it
abbrev pub Finds : List Word → ℕ → Option Word → Type 0
Finds words number (Some w) = Contains words w × (claims number w ≡ true)
Finds words number None = All (λ w. claims number w ≡ false) words

-- one of the words begins the bits: its entry, and the bits after its codeword
pub record IsBegun (words : List Word) (left : List Bool) (entry : ℕ) (rest : List Bool) : Type 0
  where
    pub word : Word
    pub among : Contains words word
    pub begun : begins left word ≡ true
    pub entry_is : entry ≡ word.entry
    pub rest_is : rest ≡ drop word.len left

-- none of the words begins the bits
abbrev pub NoneBegins : List Word → List Bool → Type 0
NoneBegins words left = All (λ w. begins left w ≡ false) words
