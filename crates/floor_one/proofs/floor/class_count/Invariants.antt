use Rattle.std.proofs.Common.{◌≡◌, ◌≤◌, drop}
use Rattle.std.specs.Prelude.{max}
use Rattle.model_setup.specs.FloorSetup.{class_count}
use Rattle.floor_one.proofs.floor.class_count.Given as goal

abbrev pub invariant-loop-class : goal.invariant-loop-class
invariant-loop-class l = record {
  all : max l.count (class_count (drop l.class-index l.partitions)) ≡ class_count l.partitions;
  few : l.count ≤ 16;
}
