use Rattle.std.proofs.Common.{◌≡◌, ◌-◌, ◌<◌, length, IfSome}
use Rattle.std.specs.List.{All}
use Rattle.model_bits.specs.Reading.{times}
use Rattle.model_bits.proofs.Times.{with_front}
use Rattle.model_setup.specs.FloorReading.{subclass_book_at}
use Rattle.floor_one.proofs.class.read_subclass_books.Given as goal

abbrev pub invariant-loop : goal.invariant-loop
invariant-loop l = record {
  read : with_front l.found.items (times (l.count - l.counter) (subclass_book_at l.books) l.bits.left) ≡ times l.count (subclass_book_at l.books) l.fn.bits.left;
  count : length l.found.items ≡ l.counter;
  below : All (λ named. IfSome named (λ n. n < l.books)) l.found.items;
  bytes : l.bits.total ≡ l.fn.bits.total;
}
