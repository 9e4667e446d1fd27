use Rattle.std.proofs.Common.{◌≡◌, ℕ, ◌<◌, ◌≤◌, ◌*◌, ◌%◌, slice_index}
use Rattle.number_transform.specs.declared.field.TheConstants.{PRIME}
use Rattle.number_transform.proofs.multiplier.multiply_places.Given as goal

abbrev pub invariant-loop-k : goal.invariant-loop-k
invariant-loop-k l = record {
  done : (i : ℕ) → i < l.k → slice_index l.values i ≡ (slice_index l.fn.values i * slice_index l.factors i) % PRIME;
  rest : (i : ℕ) → l.k ≤ i → slice_index l.values i ≡ slice_index l.fn.values i;
}
