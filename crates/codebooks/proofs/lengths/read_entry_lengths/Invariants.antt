use Rattle.std.proofs.Common.{◌≡◌, ◌-◌, length}
use Rattle.std.specs.List.{All}
use Rattle.codebooks.specs.Free.{IsLengthIfUsed}
use Rattle.model_bits.specs.Reading.{times}
use Rattle.model_setup.specs.BookReading.{entry_length_at}
use Rattle.model_bits.proofs.Times.{with_front}
use Rattle.codebooks.proofs.lengths.read_entry_lengths.Given as goal

abbrev pub invariant-loop : goal.invariant-loop
invariant-loop l = record {
  read : with_front l.lengths.items (times (l.entries - l.counter) (entry_length_at l.sparse) l.bits.left) ≡ times l.entries (entry_length_at l.sparse) l.fn.bits.left;
  bytes : l.bits.total ≡ l.fn.bits.total;
  count : length l.lengths.items ≡ l.counter;
  small : All IsLengthIfUsed l.lengths.items;
}
