-- What the private parts of a book keep.
use Rattle.std.specs.Prelude.{◌≡◌, ℕ, ◌<◌, List, [], length, Option, Some, None, is_some, true, ℤ}
use Rattle.std.specs.List.{All, AllPairs}
use Rattle.std.specs.List.Sorted.{IsPermutation}
use Rattle.model_setup.specs.declared.book.TheConstants.{ENTRY_LIMIT}
use Rattle.model_setup.specs.declared.book.Word.{Word}
use Rattle.model_setup.specs.Codebook.{Lookup}
use Rattle.model_setup.specs.Codewords.{book_words, IsPlaced, AreApart}
use Rattle.codebooks.specs.Looks.{IsRising}
use Rattle.codebooks.specs.Layouts.{AreLaid}
use Rattle.codebooks.specs.Tables.{IsWholeIfSome}

abbrev pub words_or_none : Option (List Word) → List Word
words_or_none None = []
words_or_none (Some words) = words

-- the words are those of the lengths, in order of their intervals
pub record IsTree (lengths : List (Option ℕ)) (words : List Word) : Type 0 where
  pub right : is_some (book_words lengths) ≡ true
  pub same : IsPermutation (words_or_none (book_words lengths)) words
  pub apart : AllPairs AreApart (words_or_none (book_words lengths))
  pub below : All (λ w. w.entry < length lengths) (words_or_none (book_words lengths))
  pub placed : All IsPlaced words
  pub rising : IsRising words

-- the table has what the entries name, and vectors that are laid out are those of the entries
pub record IsBook (dimensions : ℕ) (lengths : List (Option ℕ)) (words : List Word)
    (lookup : Option Lookup) (values : List ℤ) : Type 0 where
  pub few : length lengths < ENTRY_LIMIT
  pub tree : IsTree lengths words
  pub whole : IsWholeIfSome dimensions (length lengths) lookup
  pub laid : AreLaid dimensions (length lengths) lookup values
