use Rattle.std.proofs.Common.{◌≡◌, ℕ, ◌*◌, ◌%◌, ◌^◌, length, slice_get, Some}
use Rattle.half_sums.specs.declared.places.Place.{Place}
use Rattle.half_sums.specs.declared.block.TheConstants.{BIN_STEP}
use Rattle.half_sums.specs.Places.{IsBinPlace}
use Rattle.half_sums.proofs.making.bin_places.Given as goal

abbrev pub invariant-loop : goal.invariant-loop
invariant-loop l = record {
  step : l.step ≡ (BIN_STEP ^ l.counter) % (4 * l.size);
  count : length l.places.items ≡ l.counter;
  each : (b : ℕ) (p : Place) → slice_get l.places.items b ≡ Some p → IsBinPlace l.size ((BIN_STEP ^ b) % (4 * l.size)) p;
}
