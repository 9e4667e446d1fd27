use Rattle.floor_one.proofs.NearSoFar.{IsLowSoFar, IsHighSoFar}
use Rattle.floor_one.proofs.points.find_neighbours.Given as goal

abbrev pub invariant-loop-n : goal.invariant-loop-n
invariant-loop-n l = record {
  low : IsLowSoFar l.x_values l.x l.n l.low;
  high : IsHighSoFar l.x_values l.x l.n l.high;
}
