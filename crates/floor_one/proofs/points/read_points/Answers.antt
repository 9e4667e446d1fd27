use Rattle.std.proofs.Common.{List, ℕ, ap, ◌∙◌, subst}
use Rattle.floor_one.specs.Points.{AreInOrder, neighbours_of}
use Rattle.floor_one.proofs.Lines.{points_passed}
use Rattle.floor_one.proofs.points.read_points.Goals as goal

pub all_neighbours-neighbours-requires : goal.all_neighbours-neighbours-requires
all_neighbours-neighbours-requires c =
    rw c.deref-2.ensures.0 (points_passed c.in_ok-x_values.x_values.items c.deref.result.now _ c.in_ok-x_values.ensures.ends c.deref.ensures.0 c.is_distinct.ensures c.if-not-is_distinct.false)

pub in_order-order-requires : goal.in_order-order-requires
in_order-order-requires c =
    rw c.deref-3.ensures.0 (points_passed c.in_ok-x_values.x_values.items c.deref.result.now _ c.in_ok-x_values.ensures.ends c.deref.ensures.0 c.is_distinct.ensures c.if-not-is_distinct.false)

pub invariant_of-result : goal.invariant_of-result
invariant_of-result c = record {
  points = points_passed c.in_ok-x_values.x_values.items c.deref.result.now _ c.in_ok-x_values.ensures.ends c.deref.ensures.0 c.is_distinct.ensures c.if-not-is_distinct.false;
  neighbours = c.all_neighbours-neighbours.ensures ∙ ap neighbours_of c.deref-2.ensures.0;
  order = subst (λ (ys : List ℕ). AreInOrder ys c.in_order-order.result.items) c.deref-3.ensures.0 c.in_order-order.ensures;
}

pub returns-clause-points : goal.returns-clause-points
returns-clause-points c =
    points_passed c.in_ok-x_values.x_values.items c.deref.result.now _ c.in_ok-x_values.ensures.ends c.deref.ensures.0 c.is_distinct.ensures c.if-not-is_distinct.false
