use Rattle.std.proofs.Common.{◌≡◌, ℕ, ◌≤◌, ◌<◌, ◌*◌, ◌%◌, ◌^◌, ◌+ℤ◌, pos, length, slice_index}
use Rattle.model_synthesis.specs.declared.constants.TheConstants.{SCALE}
use Rattle.half_sums.specs.declared.block.TheConstants.{SUM_STEP}
use Rattle.half_sums.specs.Blocks.{cosine_at, size_of}
use Rattle.half_sums.proofs.making.waves.Given as goal

abbrev pub invariant-loop : goal.invariant-loop
invariant-loop l = record {
  step : l.step ≡ (SUM_STEP ^ l.counter) % (4 * l.size);
  count : length l.waves.items ≡ l.counter;
  small : (k : ℕ) → k < l.counter → slice_index l.waves.items k ≤ 2 * 2 ^ SCALE;
  each : (k : ℕ) → k < l.counter → (pos (slice_index l.waves.items k) +ℤ cosine_at l.cosines (size_of l.levels) (SUM_STEP ^ k)) ≡ pos (2 ^ SCALE);
}
