-- The codewords of a book (Vorbis I, section 3.2.1), and reading an entry by them. A codeword is
-- kept as an interval: it is the highest bits of the numbers below 2 ^ 32 that belong to it.
use Rattle.std.specs.Prelude.{ℕ, zero, suc, ◌≡◌, ◌+◌, ◌-◌, ◌*◌, ◌^◌, ◌<◌, ◌≤◌, ◌⊎◌, List, [], ◌∷◌, ◌++◌, drop, Option, Some, None, Bool, true, false, ◌||◌, ◌&&◌, ◌==◌, nat_le, sum_by, option_map, option_and_then, not, if◌then◌else◌}
use Rattle.std.specs.List.{find, list_all, range_with_len}
use Rattle.std.specs.Int.{bit_at}
use Rattle.model_bits.specs.Bits.{bit_value}
use Rattle.model_setup.specs.declared.book.Word.{Word}

-- how many of the numbers below 2 ^ 32 belong to a codeword of this length
unfoldable pub size_of : ℕ → ℕ
size_of len = 2 ^ (32 - len)

-- whether the numbers from start up to start + size are none of a word's
abbrev pub is_apart : ℕ → ℕ → Word → Bool
is_apart start size w = nat_le (start + size) w.start || nat_le (w.start + size_of w.len) start

-- whether the k-th interval for a codeword of this length meets none of those of the earlier words
abbrev pub is_unclaimed : List Word → ℕ → ℕ → Bool
is_unclaimed earlier len k = list_all (is_apart (k * size_of len) (size_of len)) earlier

-- where the first interval for a codeword of this length begins that meets none of those of the
-- earlier words
unfoldable pub first_free : List Word → ℕ → Option ℕ
first_free earlier len = option_map (λ k. k * size_of len)
    (find (is_unclaimed earlier len) (range_with_len 0 (2 ^ len)))

-- the earlier words and those of the entries from this one on, which have these lengths; none where
-- one finds no place
unfoldable pub words_behind : List Word → ℕ → List (Option ℕ) → Option (List Word)
words_behind earlier entry [] = Some earlier
words_behind earlier entry (None ∷ lengths) = words_behind earlier (entry + 1) lengths
words_behind earlier entry (Some len ∷ lengths) =
    option_and_then (λ start.
    words_behind (earlier ++ record { entry = entry; len = len; start = start }
    ∷ []) (entry + 1) lengths) (first_free earlier len)

-- how many numbers belong to the words
unfoldable pub filled : List Word → ℕ
filled words = sum_by (λ (w : Word). size_of w.len) words

-- whether a book may have these words: they fill all numbers, or the book has no used entry, or
-- one, of length 1
abbrev pub is_right : List Word → Bool
is_right [] = true
is_right (word ∷ []) = word.len == 1
is_right (word ∷ more ∷ words) = filled (word ∷ more ∷ words) == 2 ^ 32

abbrev pub if_right : Option (List Word) → Option (List Word)
if_right None = None
if_right (Some words) = if is_right words then Some words else None

-- the words of a book whose entries have these lengths; none where no book may have these
unfoldable pub book_words : List (Option ℕ) → Option (List Word)
book_words lengths = if_right (words_behind [] 0 lengths)

-- so many of the highest bits of a number below 2 ^ count, the highest first
abbrev pub high_digits : ℕ → ℕ → ℕ → List Bool
high_digits zero count n = []
high_digits (suc len) zero n = []
high_digits (suc len) (suc count) n = (bit_at n count == 1) ∷ high_digits len count n

-- a word's codeword: the highest bits of the number at which its interval begins
unfoldable pub digits_of : Word → List Bool
digits_of word = high_digits word.len 32 word.start

abbrev pub same_bit : Bool → Bool → Bool
same_bit true b = b
same_bit false b = not b

-- whether the bits begin with these
unfoldable pub begins_with : List Bool → List Bool → Bool
begins_with [] left = true
begins_with (digit ∷ digits) [] = false
begins_with (digit ∷ digits) (bit ∷ left) = same_bit digit bit && begins_with digits left

-- whether the bits begin with a word's codeword
unfoldable pub begins : List Bool → Word → Bool
begins left word = begins_with (digits_of word) left

abbrev pub entry_behind : List Bool → Word → ℕ × List Bool
entry_behind left word = (word.entry, drop word.len left)

-- the entry of the word that the bits begin with, and the bits after it
unfoldable pub entry_begun : List Word → List Bool → Option (ℕ × List Bool)
entry_begun words left = option_map (entry_behind left) (find (begins left) words)

-- the same in a book of these words; one word alone takes a bit of either value
unfoldable pub entry_by : List Word → List Bool → Option (ℕ × List Bool)
entry_by [] left = None
entry_by (word ∷ []) [] = None
entry_by (word ∷ []) (bit ∷ left) = Some (word.entry, left)
entry_by (word ∷ more ∷ words) left = entry_begun (word ∷ more ∷ words) left

abbrev pub entry_of : Option (List Word) → List Bool → Option (ℕ × List Bool)
entry_of None left = None
entry_of (Some words) left = entry_by words left

-- the entry that a book whose entries have these lengths reads, and the bits after it; none at the
-- end of the packet, and where no entry is used
unfoldable pub entry_at : List (Option ℕ) → List Bool → Option (ℕ × List Bool)
entry_at lengths left = entry_of (book_words lengths) left

-- the number of so many next bits, highest first, with zeros behind
unfoldable pub look_high : ℕ → List Bool → ℕ
look_high zero left = 0
look_high (suc count) [] = 0
look_high (suc count) (bit ∷ left) = bit_value bit * 2 ^ count + look_high count left

-- a word's numbers are below 2 ^ 32, and begin at a multiple of their count
pub record IsPlaced (w : Word) : Type 0 where
  pub some : 0 < w.len
  pub len : w.len ≤ 32
  pub at : (k : ℕ) × (w.start ≡ k * size_of w.len)
  pub within : w.start + size_of w.len ≤ 2 ^ 32

-- no number is both words'
abbrev pub AreApart : Word → Word → Type 0
AreApart v w = (v.start + size_of v.len ≤ w.start) ⊎ (w.start + size_of w.len ≤ v.start)
