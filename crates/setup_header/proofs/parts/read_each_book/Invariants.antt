use Rattle.std.proofs.Common.{◌≡◌, ◌-◌, length}
use Rattle.model_bits.specs.Reading.{repeat}
use Rattle.model_bits.proofs.Repeat.{behind}
use Rattle.model_setup.specs.SetupPacket.{next_book_at}
use Rattle.setup_header.proofs.parts.read_each_book.Given as goal

abbrev pub invariant-loop-number : goal.invariant-loop-number
invariant-loop-number l = record {
  read : behind l.books.items (repeat (l.count - l.number) next_book_at (l.number, l.budget) l.bits.left) ≡ repeat l.count next_book_at (0, l.fn.budget) l.fn.bits.left;
  count : length l.books.items ≡ l.number;
  bytes : l.bits.total ≡ l.fn.bits.total;
}
