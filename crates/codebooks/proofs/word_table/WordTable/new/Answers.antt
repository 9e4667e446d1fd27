use Rattle.model_setup.specs.Codewords.{book_words}
use Rattle.codebooks.specs.Books.{words_or_none}
use Rattle.codebooks.proofs.Permuted.{sorted_apart}
use Rattle.codebooks.proofs.word_table.WordTable.new.Goals as goal

pub places_of-requires-clause-placed : goal.places_of-requires-clause-placed
places_of-requires-clause-placed c = rw c.deref-2.ensures.value c.in_ok-words.ensures.tree.placed

pub invariant_of-result : goal.invariant_of-result
invariant_of-result c =
    let t = c.in_ok-words.ensures.tree in
    record {
      placed = t.placed;
      rising = t.rising;
      apart = sorted_apart (words_or_none (book_words c.args.lengths.now)) c.in_ok-words.words.items t.apart t.same;
      few = c.table_width-width.ensures.few;
      places_are = rw c.deref-2.ensures.value at c.in_ok-places.ensures;
    }
