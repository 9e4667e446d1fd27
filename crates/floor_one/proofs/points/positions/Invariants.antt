use Rattle.std.proofs.Common.{◌≡◌, map, length}
use Rattle.std.specs.List.{range_with_len}
use Rattle.floor_one.specs.Points.{position_at}
use Rattle.floor_one.proofs.points.positions.Given as goal

abbrev pub invariant-loop-i : goal.invariant-loop-i
invariant-loop-i l = record {
  items : l.all.items ≡ map (position_at l.x_values) (range_with_len 0 l.i);
  count : length l.all.items ≡ l.i;
}
