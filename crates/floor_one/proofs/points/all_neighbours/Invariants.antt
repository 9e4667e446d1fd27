use Rattle.std.proofs.Common.{◌≡◌, ◌-◌, map, length}
use Rattle.std.specs.List.{range_with_len}
use Rattle.floor_one.specs.Points.{neighbours_at}
use Rattle.floor_one.proofs.points.all_neighbours.Given as goal

abbrev pub invariant-loop-i : goal.invariant-loop-i
invariant-loop-i l = record {
  items : l.all.items ≡ map (neighbours_at l.x_values) (range_with_len 2 (l.i - 2));
  count : length l.all.items ≡ l.i - 2;
}
