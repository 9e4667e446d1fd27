use Rattle.std.proofs.Common.{◌≡◌, ℕ, ◌<◌, pos, slice_index_or}
use Rattle.half_sums.proofs.silence.silence.Given as goal

abbrev pub invariant-loop-sum : goal.invariant-loop-sum
invariant-loop-sum l = (k : ℕ) → k < l.sum-index → slice_index_or l.sums k (pos 0) ≡ pos 0
