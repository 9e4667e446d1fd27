use Rattle.std.proofs.Common.{◌≡◌, ℕ, ◌<◌, pos, slice_index_or}
use Rattle.half_sums.proofs.silence.is_silent.Given as goal

abbrev pub invariant-loop-bin : goal.invariant-loop-bin
invariant-loop-bin l = (k : ℕ) → k < l.bin-index → slice_index_or l.spectrum k (pos 0) ≡ pos 0
