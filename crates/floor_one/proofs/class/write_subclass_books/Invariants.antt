use Rattle.std.proofs.Common.{take, flat_map}
use Rattle.model_writing.specs.SetupWriting.{subclass_book_fields}
use Rattle.setup_fields.specs.Puts.{ArePut}
use Rattle.floor_one.proofs.class.write_subclass_books.Given as goal

abbrev pub invariant-loop-book : goal.invariant-loop-book
invariant-loop-book l = ArePut l.fn.out l.out (flat_map subclass_book_fields (take l.book-index l.books))
