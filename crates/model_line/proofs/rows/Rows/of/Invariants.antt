use Rattle.std.proofs.Common.{◌≡◌, take}
use Rattle.model_line.proofs.rows.Rows.of.Given as goal

abbrev pub invariant-loop-row : goal.invariant-loop-row
invariant-loop-row l = l.rows ≡ take l.row-index l.items
