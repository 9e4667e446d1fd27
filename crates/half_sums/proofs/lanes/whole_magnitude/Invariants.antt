use Rattle.std.proofs.Common.{◌≡◌, ◌≤◌, ◌*◌, slice_index}
use Rattle.number_transform.specs.Products.{total}
use Rattle.model_synthesis.specs.declared.limits.TheConstants.{SPECTRUM_LIMIT}
use Rattle.half_sums.proofs.lanes.whole_magnitude.Given as goal

abbrev pub invariant-loop-magnitude : goal.invariant-loop-magnitude
invariant-loop-magnitude l = record {
  value : l.sum ≡ total l.magnitude-index (slice_index l.magnitudes);
  small : l.sum ≤ l.magnitude-index * SPECTRUM_LIMIT;
}
