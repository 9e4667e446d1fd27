-- The array of the free intervals, by the length of the codeword that each would fill.
use Rattle.std.specs.Prelude.{◌≡◌, ℕ, ◌+◌, ◌*◌, ◌^◌, ◌<◌, ◌≤◌, List, Option, Some, None, Bool, true, false, ◌&&◌, slice_index_or, nat_le, nat_lt, IfSome}
use Rattle.std.specs.List.{list_all, list_any, All, AllPairs}
use Rattle.model_setup.specs.Codewords.{size_of, is_apart, IsPlaced, AreApart}
use Rattle.model_setup.specs.declared.book.Word.{Word}

-- an interval that a codeword of length z would fill is free, and begins at s
abbrev pub FreeAt : List (Option ℕ) → ℕ → ℕ → Type 0
FreeAt free z s = slice_index_or free z None ≡ Some s

-- what claiming a place for a word of this length changes: the nearest free interval goes, and one
-- of each smaller size down to the word's is left behind the word
pub record Claim (free new : List (Option ℕ)) (len start : ℕ) : Type 0 where
  pub level : ℕ
  pub near : level ≤ len
  pub was : FreeAt free level start
  pub between : (y : ℕ) → level < y → y ≤ len → slice_index_or free y None ≡ None
  pub taken : slice_index_or new level None ≡ None
  pub left : (y : ℕ) → level < y → y ≤ len → FreeAt new y (start + size_of y)
  pub larger : (y : ℕ) → y < level → slice_index_or new y None ≡ slice_index_or free y None
  pub smaller : (y : ℕ) → len < y → slice_index_or new y None ≡ slice_index_or free y None

-- whether a number is one of a word's
abbrev pub claims : ℕ → Word → Bool
claims x w = nat_le w.start x && nat_lt x (w.start + size_of w.len)

-- the length of a used entry's codeword
abbrev pub IsLength : ℕ → Type 0
IsLength len = (0 < len) × (len ≤ 32)

-- what is free beside these words: at most one interval of each size, in rising order with sizes
-- that rise
pub record Spaces (words : List Word) (free : List (Option ℕ)) : Type 0 where
  pub levels : (z s : ℕ) → FreeAt free z s → z ≤ 32
  pub aligned : (z s : ℕ) → FreeAt free z s → (k : ℕ) × (s ≡ k * size_of z)
  pub within : (z s : ℕ) → FreeAt free z s → s + size_of z ≤ 2 ^ 32
  pub rising : (y z a b : ℕ) → y < z → FreeAt free y a → FreeAt free z b → b + size_of z ≤ a
  pub unclaimed : (z s : ℕ) → FreeAt free z s → list_all (is_apart s (size_of z)) words ≡ true
  pub covered : (x : ℕ) → x < 2 ^ 32 → list_any (claims x) words ≡ false
      → (z : ℕ) × (s : ℕ) × FreeAt free z s × (s ≤ x) × (x < s + size_of z)
  pub placed : All IsPlaced words
  pub apart : AllPairs AreApart words

-- the length of an entry's codeword, if the entry is used
abbrev pub IsLengthIfUsed : Option ℕ → Type 0
IsLengthIfUsed len = IfSome len IsLength
