-- How the vectors of a residue lie in lines.
use Rattle.std.specs.Prelude.{◌≡◌, ℕ, ◌+◌, ◌*◌, ◌/◌, ◌%◌, List, [], ◌∷◌, length, map, ℤ, pos, slice_index_or}
use Rattle.std.specs.List.{All, range_with_len}
use Rattle.model_fixed.specs.Fixed.{IsWithinLimit}
use Rattle.model_setup.specs.declared.residue.ResidueKind.{ResidueKind}
use Rattle.model_setup.specs.declared.residue.ResidueKind.TheVariants.{Spread, InRow, Interleaved}

-- how many values each of the lines has
abbrev pub line_size : List (List ℤ) → ℕ
line_size lines = length (slice_index_or lines 0 [])

-- lines of so many values, none of them past the limit
pub record AreLines (size : ℕ) (lines : List (List ℤ)) : Type 0 where
  pub sizes : All (λ line. length line ≡ size) lines
  pub small : All (All IsWithinLimit) lines

-- lines of which all values are 0
abbrev pub AreZero : List (List ℤ) → Type 0
AreZero lines = All (All (λ v. v ≡ pos 0)) lines

-- all lines as one vector, value by value
unfoldable pub together : ℕ → List (List ℤ) → List ℤ
together size lines = map (λ p.
    slice_index_or (slice_index_or lines (p % length lines) []) (p / length lines) (pos 0))
    (range_with_len 0 (size * length lines))

-- the vectors of a kind, in lines of so many values
unfoldable pub vectors_in : ResidueKind → ℕ → List (List ℤ) → List (List ℤ)
vectors_in Interleaved size lines = together size lines ∷ []
vectors_in Spread size lines = lines
vectors_in InRow size lines = lines

-- the places of so many values, the first at this place and each next one so much further on
abbrev pub run_places : ℕ → ℕ → ℕ → List ℕ
run_places first stride count = map (λ j. first + j * stride) (range_with_len 0 count)
