use Rattle.codebooks.specs.WordTables.{ArePlaces}
use Rattle.codebooks.proofs.word_table.places_of.Given as goal

abbrev pub invariant-loop-word : goal.invariant-loop-word
invariant-loop-word l = ArePlaces l.words l.width l.places.items
