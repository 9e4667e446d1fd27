use Rattle.std.proofs.Common.{◌≡◌, ℕ, ◌*◌, ◌%◌, ◌^◌, length, slice_get, Some}
use Rattle.half_sums.specs.declared.places.Place.{Place}
use Rattle.half_sums.specs.declared.block.TheConstants.{SUM_STEP}
use Rattle.half_sums.specs.Places.{IsSumPlace}
use Rattle.half_sums.proofs.making.sum_places.Given as goal

abbrev pub invariant-loop : goal.invariant-loop
invariant-loop l = record {
  step : l.step ≡ (SUM_STEP ^ l.counter) % (4 * l.size);
  count : length l.places.items ≡ l.counter;
  each : (b : ℕ) (p : Place) → slice_get l.places.items b ≡ Some p → IsSumPlace l.size ((SUM_STEP ^ b) % (4 * l.size)) p;
}
