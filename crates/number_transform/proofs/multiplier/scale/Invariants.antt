use Rattle.std.proofs.Common.{◌≡◌, ℕ, ◌<◌, ◌≤◌, ◌*◌, ◌%◌, slice_index}
use Rattle.number_transform.specs.declared.field.TheConstants.{PRIME}
use Rattle.number_transform.proofs.multiplier.scale.Given as goal

abbrev pub invariant-loop-value : goal.invariant-loop-value
invariant-loop-value l = record {
  done : (i : ℕ) → i < l.value-index → slice_index l.values i ≡ (slice_index l.fn.values i * l.factor) % PRIME;
  rest : (i : ℕ) → l.value-index ≤ i → slice_index l.values i ≡ slice_index l.fn.values i;
}
