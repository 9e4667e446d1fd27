use Rattle.std.proofs.Common.{◌≡◌, ◌+◌, ◌^◌, ◌<◌, length, drop}
use Rattle.std.specs.Prelude.{sum_by}
use Rattle.std.specs.List.{All}
use Rattle.model_bits.specs.Reading.{each, with_front}
use Rattle.model_setup.specs.FloorSetup.{dimensions_of}
use Rattle.model_setup.specs.FloorPacket.{partition_values_at, class_of}
use Rattle.floor_one.specs.Curves.{flattened}
use Rattle.floor_one.proofs.floor.Floor.read_all_values.Given as goal

abbrev pub invariant-loop-number : goal.invariant-loop-number
invariant-loop-number l = record {
  read : with_front l.values.items (flattened (each (λ class. partition_values_at l.books (class_of l.self class)) (drop l.number-index l.self.partitions) l.bits.left))
      ≡ with_front l.fn.values.items (flattened (each (λ class. partition_values_at l.books (class_of l.self class)) l.self.partitions l.fn.bits.left));
  count : length l.values.items + sum_by (dimensions_of l.self.classes) (drop l.number-index l.self.partitions) ≡ length l.self.x_values;
  small : All (λ y. y < 2 ^ 24) l.fn.values.items → All (λ y. y < 2 ^ 24) l.values.items;
  bytes : l.bits.total ≡ l.fn.bits.total;
}
