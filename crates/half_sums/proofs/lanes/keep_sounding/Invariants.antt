use Rattle.std.proofs.Common.{◌≡◌, ℕ, ◌≤◌, ◌<◌, ◌*◌, List, length, slice_index}
use Rattle.model_synthesis.specs.declared.limits.TheConstants.{SPECTRUM_LIMIT}
use Rattle.half_sums.specs.Shares.{share_sum}
use Rattle.half_sums.proofs.lanes.keep_sounding.Given as goal

abbrev pub invariant-loop-b : goal.invariant-loop-b
invariant-loop-b l = record {
  most : l.count ≤ l.b;
  shares : (waves : List ℕ) (a : ℕ) → share_sum l.kept l.kept_starts waves l.count a ≡ share_sum l.magnitudes l.starts waves l.b a;
  small : (i : ℕ) → i < l.count → slice_index l.kept i ≤ SPECTRUM_LIMIT;
  within : (i : ℕ) → i < l.count → slice_index l.kept_starts i ≤ 2 * length l.magnitudes;
}
