use Rattle.std.proofs.Common.{arith}
use Rattle.floor_one.proofs.Counts.{named_from, counted_from}
use Rattle.floor_one.proofs.floor.Floor.read.Goals as goal

pub value_count-requires-clause-named : goal.value_count-requires-clause-named
value_count-requires-clause-named c =
    rw (c.deref-2.ensures.0, c.deref-3.ensures.0)
    (named_from c.in_ok-partitions.partitions.items c.deref.result.now c.class_count.result _ c.deref.ensures.0 c.class_count.ensures.count c.in_ok-classes.ensures.count)

pub invariant_of-result : goal.invariant_of-result
invariant_of-result c =
    let m = c.in_ok-multiplier.ensures.below in
    record {
      partitions = named_from c.in_ok-partitions.partitions.items c.deref.result.now c.class_count.result _ c.deref.ensures.0 c.class_count.ensures.count c.in_ok-classes.ensures.count;
      classes = c.in_ok-classes.ensures.classes;
      at_least_1 = omega arith;
      at_most_4 = omega arith;
      points = c.in_ok-points.ensures.points;
      counted = counted_from c.in_ok-partitions.partitions.items c.deref-2.result.now c.in_ok-classes.classes.items c.deref-3.result.now c.value_count.result _ c.deref-2.ensures.0 c.deref-3.ensures.0 c.value_count.ensures.count c.in_ok-points.ensures.count;
    }

pub returns-clause-floor : goal.returns-clause-floor
returns-clause-floor c =
    let m = c.in_ok-multiplier.ensures.below in
    record {
      partitions = named_from c.in_ok-partitions.partitions.items c.deref.result.now c.class_count.result _ c.deref.ensures.0 c.class_count.ensures.count c.in_ok-classes.ensures.count;
      classes = c.in_ok-classes.ensures.classes;
      at_least_1 = omega arith;
      at_most_4 = omega arith;
      points = c.in_ok-points.ensures.points;
      counted = counted_from c.in_ok-partitions.partitions.items c.deref-2.result.now c.in_ok-classes.classes.items c.deref-3.result.now c.value_count.result _ c.deref-2.ensures.0 c.deref-3.ensures.0 c.value_count.ensures.count c.in_ok-points.ensures.count;
    }
