-- The vectors of a book's entries, laid out one after the other.
use Rattle.std.specs.Prelude.{◌≡◌, ℕ, ◌*◌, ◌<◌, ℤ, List, length, take, drop, Option, Some}
use Rattle.model_setup.specs.Codebook.{Lookup}
use Rattle.model_setup.specs.Vectors.{vector_of}

-- so many entries' vectors
pub record AreVectors (dimensions entries : ℕ) (lookup : Lookup) (values : List ℤ) : Type 0 where
  pub count : length values ≡ entries * dimensions
  pub each : (entry : ℕ) → entry < entries
      → take dimensions (drop (entry * dimensions) values) ≡ vector_of dimensions lookup entry

-- all of a book's vectors, or none
abbrev pub AreLaid : ℕ → ℕ → Option Lookup → List ℤ → Type 0
AreLaid dimensions entries lookup values =
    0 < length values → (l : Lookup) → lookup ≡ Some l → AreVectors dimensions entries l values
