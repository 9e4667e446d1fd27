use Rattle.std.proofs.Common.{◌≡◌, replicate, pos}
use Rattle.residues.proofs.lines.zero_lines.Given as goal

abbrev pub invariant-loop : goal.invariant-loop
invariant-loop l = l.lines.items ≡ replicate l.counter (replicate l.size (pos 0))
