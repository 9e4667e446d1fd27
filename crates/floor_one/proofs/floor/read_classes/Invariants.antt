use Rattle.std.proofs.Common.{◌≡◌, ◌-◌, length}
use Rattle.std.specs.List.{All}
use Rattle.model_bits.specs.Reading.{times}
use Rattle.model_bits.proofs.Times.{with_front}
use Rattle.model_setup.specs.FloorSetup.{IsFloorClass, NamesBooks}
use Rattle.model_setup.specs.FloorReading.{class_at}
use Rattle.floor_one.proofs.floor.read_classes.Given as goal

abbrev pub invariant-loop : goal.invariant-loop
invariant-loop l = record {
  read : with_front l.classes.items (times (l.count - l.counter) (class_at l.books) l.bits.left) ≡ times l.count (class_at l.books) l.fn.bits.left;
  count : length l.classes.items ≡ l.counter;
  classes : All IsFloorClass l.classes.items;
  books : All (NamesBooks l.books) l.classes.items;
  bytes : l.bits.total ≡ l.fn.bits.total;
}
