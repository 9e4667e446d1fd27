use Rattle.model_writing.specs.SetupWriting.{book_fields}
use Rattle.setup_fields.proofs.Puts.{item_places_of, one_more_of}
use Rattle.setup_header.proofs.parts.write_each_book.Goals as goal

pub write-requires : goal.write-requires
write-requires c = item_places_of book_fields c.args.books.now c.loop-book.book-index c.book-item.result c.loop-book-test.true c.book-item.is c.requires

pub loop-book-preserved : goal.loop-book-preserved
loop-book-preserved c = one_more_of book_fields c.args.books.now c.loop-book.book-index c.book-item.result c.loop-book-test.true c.book-item.is c.loop-book.invariant c.in_ok-write.ensures.put
