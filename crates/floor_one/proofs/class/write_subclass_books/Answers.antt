use Rattle.std.proofs.Common.{None}
use Rattle.model_writing.specs.SetupWriting.{subclass_book_fields}
use Rattle.setup_fields.proofs.Puts.{item_places, one_more}
use Rattle.floor_one.proofs.class.write_subclass_books.Goals as goal

pub write_subclass_book-requires : goal.write_subclass_book-requires
write_subclass_book-requires c = item_places subclass_book_fields c.args.books.now c.loop-book.book-index None c.loop-book-test.true c.requires

pub loop-book-preserved : goal.loop-book-preserved
loop-book-preserved c = one_more subclass_book_fields c.args.books.now c.loop-book.book-index None c.loop-book-test.true c.loop-book.invariant c.in_ok-write_subclass_book.ensures.put
