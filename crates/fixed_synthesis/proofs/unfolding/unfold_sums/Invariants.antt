use Rattle.std.proofs.Common.{◌≡◌, ℕ, ◌*◌, pos, length, slice_index_or}
use Rattle.model_fixed.specs.Fixed.{shift_down}
use Rattle.fixed_synthesis.specs.Unfolding.{unfolded_sum}
use Rattle.fixed_synthesis.proofs.AllSums.{IsWritten}
use Rattle.fixed_synthesis.proofs.unfolding.unfold_sums.Given as goal

abbrev pub invariant-loop-j : goal.invariant-loop-j
invariant-loop-j l =
    (i : ℕ)
    → IsWritten l.quarter l.j i
    → slice_index_or l.out i (pos 0) ≡ shift_down (unfolded_sum (2 * length l.sums) l.sums i) l.bits
