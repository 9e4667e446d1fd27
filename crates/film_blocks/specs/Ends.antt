-- Up to which block each link of a film goes.
use Rattle.std.specs.Prelude.{ℕ, zero, suc, ◌<◌, ◌≤◌, Bool, true, false, List, [], ◌∷◌, length, slice_index}
use Rattle.std.specs.List.{AllWithin}
use Rattle.model_line.specs.declared.row.RowKind.{RowKind}
use Rattle.model_line.specs.declared.row.RowKind.TheVariants.{Lost, Bad, Skip, Block}
use Rattle.model_line.specs.declared.row.Row.{Row}
use Rattle.model_line.specs.Decode.{LinkEntry}
use Rattle.model_line.specs.Origins.{number_behind}

abbrev pub is_block_kind : RowKind → Bool
is_block_kind Lost = false
is_block_kind Bad = false
is_block_kind Skip = false
is_block_kind (Block long) = true

abbrev pub is_block : Row → Bool
is_block row = is_block_kind row.kind

-- for each link the number of the next block after it, the first block of them all having this
-- number
unfoldable pub ends_from : ℕ → List (List (LinkEntry ℕ)) → List ℕ
ends_from n [] = []
ends_from n (entries ∷ links) = number_behind n entries ∷ ends_from (number_behind n entries) links

-- the number of the first block of a link, where the first of them all has this number and the
-- links have these ends
abbrev pub first_behind : ℕ → List ℕ → ℕ → ℕ
first_behind n ends zero = n
first_behind n ends (suc link) = slice_index ends link

-- so many links end before block `at`, and the others behind it
pub record EndBefore (at count : ℕ) (ends : List ℕ) : Type 0 where
  pub before : AllWithin (λ (end : ℕ). end ≤ at) ends 0 count
  pub behind : AllWithin (λ (end : ℕ). at < end) ends count (length ends)
