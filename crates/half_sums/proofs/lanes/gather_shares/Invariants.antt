use Rattle.std.proofs.Common.{◌≡◌, ℕ, ◌≤◌, ◌<◌, ◌*◌, length, slice_get, slice_index, unsigned_abs, Some}
use Rattle.model_synthesis.specs.declared.limits.TheConstants.{SPECTRUM_LIMIT}
use Rattle.half_sums.specs.declared.places.Place.{Place}
use Rattle.half_sums.specs.Shares.{bin_at, share_start}
use Rattle.half_sums.proofs.lanes.gather_shares.Given as goal

abbrev pub invariant-loop-b : goal.invariant-loop-b
invariant-loop-b l = record {
  magnitudes : (i : ℕ) (p : Place) → i < l.b → slice_get l.bins i ≡ Some p → slice_index l.magnitudes i ≡ unsigned_abs (bin_at l.spectrum p);
  starts : (i : ℕ) (p : Place) → i < l.b → slice_get l.bins i ≡ Some p → slice_index l.starts i ≡ share_start (length l.bins) (bin_at l.spectrum p) i;
  small : (i : ℕ) → i < l.b → slice_index l.magnitudes i ≤ SPECTRUM_LIMIT;
  within : (i : ℕ) → i < l.b → slice_index l.starts i ≤ 2 * length l.bins;
}
