use Rattle.std.proofs.Common.{length}
use Rattle.model_setup.specs.Codewords.{book_words, entry_at}
use Rattle.codebooks.specs.Books.{words_or_none}
use Rattle.codebooks.proofs.Bounds.{read_below, all_below}
use Rattle.codebooks.proofs.Permuted.{entry_of_right}
use Rattle.codebooks.proofs.book.Book.entry.Goals as goal

pub returns-clause-found : goal.returns-clause-found
unfolding entry_at
returns-clause-found c =
    let t = c.self.invariant.tree in
    let book = words_or_none (book_words c.self.inside.lengths.items) in
    let p = t.same in
    rw (← c.self.view_is, entry_of_right (book_words c.self.inside.lengths.items) c.args.bits.now.left t.right) (c.read_entry.ensures.found book p t.apart)

pub returns-clause-ended : goal.returns-clause-ended
unfolding entry_at
returns-clause-ended c =
    let t = c.self.invariant.tree in
    let book = words_or_none (book_words c.self.inside.lengths.items) in
    let p = t.same in
    rw (← c.self.view_is, entry_of_right (book_words c.self.inside.lengths.items) c.args.bits.now.left t.right) (c.read_entry.ensures.ended book p t.apart)

pub returns-clause-below : goal.returns-clause-below
returns-clause-below c =
    let t = c.self.invariant.tree in
    let book = words_or_none (book_words c.self.inside.lengths.items) in
    let p = t.same in
    rw (← c.self.view_is) (read_below book c.args.bits.now.left c.read_entry.new.bits.left (length c.self.inside.lengths.items) c.read_entry.result t.below (c.read_entry.ensures.found book p t.apart))

pub returns-clause-small : goal.returns-clause-small
returns-clause-small c =
    let t = c.self.invariant.tree in
    let book = words_or_none (book_words c.self.inside.lengths.items) in
    let p = t.same in
    let below = read_below book c.args.bits.now.left c.read_entry.new.bits.left (length c.self.inside.lengths.items) c.read_entry.result t.below (c.read_entry.ensures.found book p t.apart) in
    all_below c.read_entry.result (length c.self.inside.lengths.items) c.self.invariant.few below
