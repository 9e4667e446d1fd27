use Rattle.std.proofs.Common.{◌≡◌, ◌++◌, drop}
use Rattle.film_blocks.proofs.RowSteps.{rows_in_order}
use Rattle.film_blocks.proofs.rows.rows.Given as goal

abbrev pub invariant-loop-i : goal.invariant-loop-i
invariant-loop-i l = l.rows ++ rows_in_order l.bytes l.long_flags (drop l.i l.entries) ≡ rows_in_order l.bytes l.long_flags l.entries
