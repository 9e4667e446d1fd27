use Rattle.std.proofs.Common.{◌≡◌, length}
use Rattle.std.specs.List.{All}
use Rattle.model_fixed.specs.Fixed.{IsWithinLimit}
use Rattle.model_setup.specs.ResidueDecoding.{add_all}
use Rattle.residues.specs.Layout.{run_places}
use Rattle.residues.proofs.adding.add_to_line.Given as goal

abbrev pub invariant-loop-j : goal.invariant-loop-j
invariant-loop-j l = record {
  added : l.line ≡ add_all l.fn.line (run_places l.run.first l.run.stride l.j) l.values;
  size : length l.line ≡ length l.fn.line;
  small : All IsWithinLimit l.line;
}
