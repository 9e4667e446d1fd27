use Rattle.std.proofs.Common.{◌≡◌, ◌++◌, replicate, Some}
use Rattle.codebooks.proofs.lengths.push_run.Given as goal

abbrev pub invariant-loop : goal.invariant-loop
invariant-loop l = l.lengths.items ≡ l.fn.lengths.items ++ replicate l.counter (Some l.len)
