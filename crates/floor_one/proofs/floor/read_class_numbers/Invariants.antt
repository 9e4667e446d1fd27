use Rattle.std.proofs.Common.{◌≡◌, ◌-◌, ◌<◌, length}
use Rattle.std.specs.List.{All}
use Rattle.model_bits.specs.Reading.{times}
use Rattle.model_bits.proofs.Times.{with_front}
use Rattle.model_setup.specs.FloorReading.{floor_field}
use Rattle.floor_one.proofs.floor.read_class_numbers.Given as goal

abbrev pub invariant-loop : goal.invariant-loop
invariant-loop l = record {
  read : with_front l.numbers.items (times (l.count - l.counter) (floor_field 4) l.bits.left) ≡ times l.count (floor_field 4) l.fn.bits.left;
  count : length l.numbers.items ≡ l.counter;
  small : All (λ class. class < 16) l.numbers.items;
  bytes : l.bits.total ≡ l.fn.bits.total;
}
