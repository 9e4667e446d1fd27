use Rattle.std.proofs.Common.{◌≡◌, ℕ, ◌<◌, ◌≤◌, pos, slice_index_or}
use Rattle.model_synthesis.specs.Coupling.{first_of, second_of}
use Rattle.fixed_synthesis.proofs.coupling.uncouple.Given as goal

abbrev pub invariant-loop-k : goal.invariant-loop-k
invariant-loop-k l = record {
  first : (j : ℕ) → j < l.k → slice_index_or l.magnitude j (pos 0)
      ≡ first_of (slice_index_or l.fn.magnitude j (pos 0)) (slice_index_or l.fn.angle j (pos 0));
  second : (j : ℕ) → j < l.k → slice_index_or l.angle j (pos 0)
      ≡ second_of (slice_index_or l.fn.magnitude j (pos 0)) (slice_index_or l.fn.angle j (pos 0));
  magnitudes : (j : ℕ) → l.k ≤ j → slice_index_or l.magnitude j (pos 0) ≡ slice_index_or l.fn.magnitude j (pos 0);
  angles : (j : ℕ) → l.k ≤ j → slice_index_or l.angle j (pos 0) ≡ slice_index_or l.fn.angle j (pos 0);
}
