use Rattle.std.proofs.Common.{◌≡◌, ℕ, ◌<◌, pos, slice_index, slice_index_or}
use Rattle.model_synthesis.specs.Spectrum.{shaped_bin}
use Rattle.fixed_synthesis.proofs.spectrum.shape.Given as goal

abbrev pub invariant-loop-k : goal.invariant-loop-k
invariant-loop-k l = (j : ℕ) → j < l.k → slice_index_or l.out j (pos 0)
    ≡ shaped_bin l.constants (slice_index_or l.residue j (pos 0)) (slice_index l.curve j)
