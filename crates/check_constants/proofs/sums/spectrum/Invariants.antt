use Rattle.std.proofs.Common.{◌≡◌, length}
use Rattle.half_sums.specs.Places.{AreBins}
use Rattle.check_constants.proofs.sums.spectrum.Given as goal

abbrev pub invariant-loop-k : goal.invariant-loop-k
invariant-loop-k l = record {
  count : length l.values.items ≡ l.k;
  small : AreBins l.values.items;
}
