use Rattle.std.proofs.Common.{◌≡◌, ◌-◌, length}
use Rattle.model_bits.specs.Reading.{times}
use Rattle.model_bits.proofs.Times.{with_front}
use Rattle.model_setup.specs.BookReading.{field}
use Rattle.codebooks.proofs.lookup.read_multiplicands.Given as goal

abbrev pub invariant-loop : goal.invariant-loop
invariant-loop l = record {
  read : with_front l.multiplicands.items (times (l.count - l.counter) (field l.width) l.bits.left) ≡ times l.count (field l.width) l.fn.bits.left;
  bytes : l.bits.total ≡ l.fn.bits.total;
  count : length l.multiplicands.items ≡ l.counter;
}
