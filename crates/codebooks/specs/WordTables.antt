-- The table of a book's short codewords.
use Rattle.std.specs.Prelude.{◌≡◌, ℕ, ◌^◌, ◌<◌, ◌≤◌, List, length, true, slice_index_or}
use Rattle.std.specs.List.{All, Contains}
use Rattle.std.specs.Int.{reverse_bits_onto}
use Rattle.model_setup.specs.declared.book.Word.{Word}
use Rattle.model_setup.specs.Codewords.{IsPlaced}
use Rattle.codebooks.specs.declared.word_table.Place.{Place}
use Rattle.codebooks.specs.declared.word_table.TheConstants.{MOST_WIDTH}
use Rattle.codebooks.specs.Free.{claims}
use Rattle.codebooks.specs.Looks.{IsRising, SameOrApart}

-- the place is that of a word of at most so many bits, which has the number
pub record IsShortWord (words : List Word) (width number : ℕ) (place : Place) : Type 0 where
  pub word : Word
  pub among : Contains words word
  pub claimed : claims number word ≡ true
  pub short : word.len ≤ width
  pub entry_is : place.entry ≡ word.entry
  pub len_is : place.len ≡ word.len

-- a place without a length says nothing
abbrev pub IsPlaceOf : List Word → ℕ → ℕ → Place → Type 0
IsPlaceOf words width number place = 0 < place.len → IsShortWord words width number place

-- a place for each number that so many bits can be, the first of them the lowest: the codewords
-- begin with the highest of 32 bits, so that each number is turned round
pub record ArePlaces (words : List Word) (width : ℕ) (places : List Place) : Type 0 where
  pub count : length places ≡ 2 ^ width
  pub each : (k : ℕ) (d : Place) → k < length places
      → IsPlaceOf words width (reverse_bits_onto 32 k 0) (slice_index_or places k d)

-- what a table keeps
pub record IsWordTable (words : List Word) (width : ℕ) (places : List Place) : Type 0 where
  pub placed : All IsPlaced words
  pub rising : IsRising words
  pub apart : SameOrApart words
  pub few : width ≤ MOST_WIDTH
  pub places_are : ArePlaces words width places
