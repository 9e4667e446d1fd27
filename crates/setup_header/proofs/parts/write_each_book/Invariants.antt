use Rattle.std.proofs.Common.{take, flat_map}
use Rattle.model_writing.specs.SetupWriting.{book_fields}
use Rattle.setup_fields.specs.Puts.{ArePut}
use Rattle.setup_header.proofs.parts.write_each_book.Given as goal

abbrev pub invariant-loop-book : goal.invariant-loop-book
invariant-loop-book l = ArePut l.fn.out l.out (flat_map book_fields (take l.book-index l.books))
