-- Laws about the vectors that a residue decodes, in the words of the standard.
use Rattle.std.specs.Prelude.{◌≡◌, ◌⊎◌, ℕ, ◌<◌, ◌≤◌, min, length, replicate, List, Bool, false, ℤ, pos, slice_index_or}
use Rattle.std.specs.List.{list_any}
use Rattle.model_setup.specs.Codebook.{Codebook}
use Rattle.model_setup.specs.ResidueSetup.{ResidueSetup}
use Rattle.model_setup.specs.ResidueDecoding.{decoded_from, start, vector_in, residue_vectors}

-- what a vector has at a place once all of its packet is decoded, 0 where it has no such place.
-- Interleaved vectors are one vector here, which is taken apart only behind the decoding.
abbrev pub value_after : List Codebook → ResidueSetup → ℕ → List Bool → ℕ → List Bool → ℕ → ℕ → ℤ
value_after books residue size wanted count left vector place =
    slice_index_or (vector_in
    (decoded_from books residue size wanted (start residue size count left)).vectors
    vector) place (pos 0)

-- nothing is decoded outside a residue's range: before its begin, and from its end or the vectors'
-- own on, all values are 0 (Vorbis I, section 8.6.2)
abbrev pub NothingOutsideTheRange : Type 0
NothingOutsideTheRange =
    (books : List Codebook) (residue : ResidueSetup) (size : ℕ) (wanted : List Bool) (count : ℕ)
    (left : List Bool) (vector place : ℕ)
    → (place < residue.begin) ⊎ (min residue.end size ≤ place)
    → value_after books residue size wanted count left vector place ≡ pos 0

-- a vector that is not wanted keeps the value 0 at each place, whatever the packet holds. That is
-- said of vectors that are decoded each by itself: of interleaved ones, the one vector that they
-- are (Vorbis I, section 8.6.2)
abbrev pub UnwantedStaysSilent : Type 0
UnwantedStaysSilent =
    (books : List Codebook) (residue : ResidueSetup) (size : ℕ) (wanted : List Bool) (count : ℕ)
    (left : List Bool) (vector : ℕ)
    → slice_index_or wanted vector false ≡ false → (place : ℕ)
    → value_after books residue size wanted count left vector place ≡ pos 0

-- where no vector is wanted, all are 0 and no bit is read, of each kind of residue: also where they
-- are interleaved, of which one that is wanted makes all be read (Vorbis I, section 8.6.5)
abbrev pub NoneWantedStaysSilent : Type 0
NoneWantedStaysSilent =
    (books : List Codebook) (residue : ResidueSetup) (size : ℕ) (wanted : List Bool)
    (left : List Bool)
    → list_any (λ w. w) wanted ≡ false
    → residue_vectors books residue size wanted left
    ≡ (replicate (length wanted) (replicate size (pos 0)), left)
