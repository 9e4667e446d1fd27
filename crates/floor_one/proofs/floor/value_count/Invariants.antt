use Rattle.std.proofs.Common.{◌≡◌, ◌≤◌, ◌*◌, take}
use Rattle.model_setup.specs.FloorSetup.{value_count}
use Rattle.floor_one.proofs.floor.value_count.Given as goal

abbrev pub invariant-loop-number : goal.invariant-loop-number
invariant-loop-number l = record {
  all : l.count ≡ value_count l.classes (take l.number-index l.partitions);
  small : l.count ≤ 8 * l.number-index;
}
