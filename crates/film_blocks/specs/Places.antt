-- Which entries of a link decode to blocks, by their places.
use Rattle.std.specs.Prelude.{ℕ, ◌+◌, if◌then◌else◌, List, [], ◌∷◌, ◌++◌}
use Rattle.model_line.specs.declared.row.Row.{Row}
use Rattle.film_blocks.specs.Ends.{is_block}

-- the place of a row, if it is a block
abbrev pub block_place : ℕ → Row → List ℕ
block_place place row = if is_block row then place ∷ [] else []

-- the places of the rows that are blocks, where the first row has this place
unfoldable pub block_places : ℕ → List Row → List ℕ
block_places place [] = []
block_places place (row ∷ rows) = block_place place row ++ block_places (place + 1) rows
