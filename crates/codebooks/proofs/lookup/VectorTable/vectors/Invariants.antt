use Rattle.std.proofs.Common.{◌≡◌, length}
use Rattle.codebooks.specs.Layouts.{AreVectors}
use Rattle.codebooks.proofs.lookup.VectorTable.vectors.Given as goal

abbrev pub invariant-loop-entry : goal.invariant-loop-entry
invariant-loop-entry l = record {
  long : length l.vector ≡ l.dimensions;
  laid : AreVectors l.dimensions l.entry l.self l.vectors.items;
}
