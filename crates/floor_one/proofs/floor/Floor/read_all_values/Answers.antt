use Rattle.std.proofs.Common.{◌∙◌, ◌≡◌, ◌+◌, drop, arith}
use Rattle.std.specs.Prelude.{sum_by}
use Rattle.model_setup.specs.FloorSetup.{dimensions_of}
use Rattle.floor_one.proofs.Partitions.{sizes, partition_read, partition_ends}
use Rattle.floor_one.proofs.floor.Floor.read_all_values.Goals as goal

pub read_partition_values-requires-clause-room : goal.read_partition_values-requires-clause-room
read_partition_values-requires-clause-room c =
    let floor = c.args.self.now in
    let dims : sum_by (dimensions_of floor.classes) (drop c.loop-number.number-index floor.partitions) ≡ c.index-classes-from.result.dimensions + sum_by (dimensions_of floor.classes) (drop (c.loop-number.number-index + 1) floor.partitions)
    = sizes floor c.partitions-number-items.result.now c.classes-classes.result.now c.loop-number.number-index c.from.result c.index-classes-from.result c.partitions-number-items.ensures c.classes-classes.ensures.value
    c.classes-classes.ensures.floor.partitions c.loop-number-test.true c.from.ensures c.index-classes-from.is in
    let count = c.loop-number.invariant.count in
    let few = c.classes-classes.ensures.floor.points.few in
    omega arith

pub returns-in_err-read_partition_values-clause-ended : goal.returns-in_err-read_partition_values-clause-ended
returns-in_err-read_partition_values-clause-ended c =
    let floor = c.args.self.now in
    rw c.from_residual.ensures (partition_ends floor c.partitions-number-items.result.now c.classes-classes.result.now c.loop-number.number-index c.from.result c.index-classes-from.result c.partitions-number-items.ensures
    c.classes-classes.ensures.value c.classes-classes.ensures.floor.partitions c.loop-number-test.true c.from.ensures c.index-classes-from.is c.args.books.now c.args.bits.now.left c.loop-number.bits.left c.args.values.now.items
    c.loop-number.values.items c.loop-number.invariant.read c.in_err-read_partition_values.ensures.ended)

pub loop-number-preserved : goal.loop-number-preserved
loop-number-preserved c =
    let floor = c.args.self.now in
    let dims : sum_by (dimensions_of floor.classes) (drop c.loop-number.number-index floor.partitions) ≡ c.index-classes-from.result.dimensions + sum_by (dimensions_of floor.classes) (drop (c.loop-number.number-index + 1) floor.partitions)
    = sizes floor c.partitions-number-items.result.now c.classes-classes.result.now c.loop-number.number-index c.from.result c.index-classes-from.result c.partitions-number-items.ensures c.classes-classes.ensures.value
    c.classes-classes.ensures.floor.partitions c.loop-number-test.true c.from.ensures c.index-classes-from.is in
    let count = c.loop-number.invariant.count in
    let len = c.in_ok-read_partition_values.ensures.count in
    record {
      read = partition_read floor c.partitions-number-items.result.now c.classes-classes.result.now c.loop-number.number-index c.from.result c.index-classes-from.result c.partitions-number-items.ensures
          c.classes-classes.ensures.value c.classes-classes.ensures.floor.partitions c.loop-number-test.true c.from.ensures c.index-classes-from.is c.args.books.now c.args.bits.now.left c.loop-number.bits.left c.args.values.now.items
          c.loop-number.values.items c.loop-number.invariant.read c.read_partition_values.new.values.items c.read_partition_values.new.bits.left c.in_ok-read_partition_values.ensures.read;
      count = omega arith;
      small = λ h. c.in_ok-read_partition_values.ensures.small (c.loop-number.invariant.small h);
      bytes = c.in_ok-read_partition_values.ensures.bytes ∙ c.loop-number.invariant.bytes;
    }
