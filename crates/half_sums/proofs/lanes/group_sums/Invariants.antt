use Rattle.std.proofs.Common.{◌≡◌, ℕ, ◌*◌, ◌<◌, slice_index}
use Rattle.half_sums.specs.Shares.{share_sum}
use Rattle.half_sums.proofs.lanes.group_sums.Given as goal

abbrev pub invariant-loop-group : goal.invariant-loop-group
invariant-loop-group l = (a : ℕ) → a < 16 * l.group → slice_index l.values a ≡ share_sum l.magnitudes l.starts l.waves l.count a
