use Rattle.std.proofs.Common.{◌≡◌, ◌^◌, List, length}
use Rattle.std.specs.List.{Contains}
use Rattle.model_setup.specs.declared.book.Word.{Word}
use Rattle.codebooks.specs.WordTables.{ArePlaces}
use Rattle.codebooks.proofs.word_table.write_places.Given as goal

abbrev pub invariant-loop-i : goal.invariant-loop-i
invariant-loop-i l = record {
  count : length l.places ≡ 2 ^ l.width;
  places : (words : List Word) → Contains words l.word → ArePlaces words l.width l.fn.places → ArePlaces words l.width l.places;
}
