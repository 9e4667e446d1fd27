use Rattle.std.proofs.Common.{◌≡◌, ◌+◌, ◌++◌, length}
use Rattle.film_blocks.specs.Places.{block_places}
use Rattle.film_blocks.proofs.places.block_places.Given as goal

abbrev pub invariant-loop-row : goal.invariant-loop-row
invariant-loop-row l = record {
  places : l.places.items ++ block_places l.place l.row-iterator ≡ block_places l.first l.rows;
  place : l.place + length l.row-iterator ≡ l.first + length l.rows;
}
