use Rattle.std.proofs.Common.{◌≡◌, drop}
use Rattle.model_setup.specs.FloorSetup.{is_distinct}
use Rattle.floor_one.proofs.points.is_distinct.Given as goal

abbrev pub invariant-loop-i : goal.invariant-loop-i
invariant-loop-i l = is_distinct (drop l.i l.x_values) ≡ is_distinct l.x_values
