-- What a codebook holds (Vorbis I, section 3.2.1).
use Rattle.std.specs.Prelude.{ℕ, Bool, List, Option}
use Rattle.model_setup.specs.declared.book.LookupKind.{LookupKind}

-- how an entry's vector is made: minimum and delta are packed numbers
pub record Lookup : Type 0 where
  pub kind : LookupKind
  pub minimum : ℕ
  pub delta : ℕ
  pub sequence : Bool
  pub multiplicands : List ℕ

-- a codebook: the length of each entry's codeword, where the entry is used, and how vectors are
-- made, if they are
pub record Codebook : Type 0 where
  pub dimensions : ℕ
  pub lengths : List (Option ℕ)
  pub lookup : Option Lookup
