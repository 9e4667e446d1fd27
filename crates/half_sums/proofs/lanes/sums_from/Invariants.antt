use Rattle.std.proofs.Common.{◌≡◌, ℕ, ◌+◌, ◌<◌, length, slice_index}
use Rattle.half_sums.specs.Shares.{share_sum}
use Rattle.half_sums.proofs.lanes.sums_from.Given as goal

abbrev pub invariant-loop-b : goal.invariant-loop-b
invariant-loop-b l = record {
  lanes : length l.sums ≡ 16;
  sums : (i : ℕ) → i < 16 → slice_index l.sums i ≡ share_sum l.magnitudes l.starts l.waves l.b (l.first + i);
}
