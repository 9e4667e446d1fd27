use Rattle.std.proofs.Common.{◌≡◌, ℕ, ◌<◌, pos, slice_get, slice_index, slice_index_or, Some}
use Rattle.number_transform.specs.declared.field.TheConstants.{PRIME}
use Rattle.number_transform.specs.Field.{residue_of}
use Rattle.half_sums.specs.declared.places.Place.{Place}
use Rattle.half_sums.specs.Places.{signed}
use Rattle.half_sums.proofs.exchange.gather.Given as goal

abbrev pub invariant-loop-b : goal.invariant-loop-b
invariant-loop-b l = record {
  done : (i : ℕ) (p : Place) → i < l.b → slice_get l.bins i ≡ Some p → slice_index l.values i ≡ residue_of (signed p.negative (slice_index_or l.spectrum p.index (pos 0)));
  small : (k : ℕ) → k < l.b → slice_index l.values k < PRIME;
}
