-- Laws about the codewords of a whole book, whose lengths are 1 to 32 (Vorbis I, section 3.2.1).
use Rattle.std.specs.Prelude.{◌≡◌, ℕ, ◌^◌, ◌<◌, ◌≤◌, List, length, Option, Some, Bool, true, false, is_some}
use Rattle.std.specs.List.{All, AllPairs, list_any}
use Rattle.model_setup.specs.declared.book.Word.{Word}
use Rattle.model_setup.specs.Codewords.{digits_of, begins_with, book_words, entry_at, AreApart}
use Rattle.codebooks.specs.Free.{claims, IsLengthIfUsed}

-- neither codeword begins the other, and no number is both words'
pub record AreSeparate (v w : Word) : Type 0 where
  pub first : begins_with (digits_of v) (digits_of w) ≡ false
  pub second : begins_with (digits_of w) (digits_of v) ≡ false
  pub apart : AreApart v w

-- no codeword of a book begins another
abbrev pub WordsAreSeparate : Type 0
WordsAreSeparate = (lengths : List (Option ℕ)) (words : List Word) → All IsLengthIfUsed lengths
    → book_words lengths ≡ Some words → AllPairs AreSeparate words

-- the tree of a book with more than one used entry is full: each number is a word's
abbrev pub TreesAreFull : Type 0
TreesAreFull = (lengths : List (Option ℕ)) (words : List Word) → All IsLengthIfUsed lengths
    → book_words lengths ≡ Some words → 1 < length words
    → (number : ℕ) → number < 2 ^ 32 → list_any (claims number) words ≡ true

-- a book with a used entry reads an entry wherever 32 bits are left
abbrev pub EntriesAreRead : Type 0
EntriesAreRead = (lengths : List (Option ℕ)) (words : List Word) → All IsLengthIfUsed lengths
    → book_words lengths ≡ Some words → 0 < length words
    → (left : List Bool) → 32 ≤ length left → is_some (entry_at lengths left) ≡ true
