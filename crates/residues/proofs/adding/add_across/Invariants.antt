use Rattle.std.proofs.Common.{◌≡◌, ◌+◌, ◌*◌, ◌<◌, length}
use Rattle.model_setup.specs.ResidueDecoding.{add_all}
use Rattle.residues.specs.Layout.{AreLines, together, run_places}
use Rattle.residues.proofs.adding.add_across.Given as goal

abbrev pub invariant-loop-j : goal.invariant-loop-j
invariant-loop-j l = record {
  added : together l.size l.lines ≡ add_all (together l.size l.fn.lines) (run_places l.first 1 l.j) l.values;
  lines : AreLines l.size l.lines;
  count : length l.lines ≡ l.channels;
  channel : l.channel < l.channels;
  place : l.place * l.channels + l.channel ≡ l.first + l.j;
}
