use Rattle.std.proofs.Common.{◌≡◌, ℕ, ◌<◌, ◌*◌, ℤ, pos, length, slice_get, slice_index, slice_index_or, unsigned_abs, Some}
use Rattle.number_transform.specs.declared.field.TheConstants.{PRIME}
use Rattle.number_transform.specs.Field.{residue_of}
use Rattle.half_sums.specs.declared.places.Place.{Place}
use Rattle.half_sums.specs.Places.{signed}
use Rattle.half_sums.proofs.exchange.scatter.Given as goal

abbrev pub invariant-loop-a : goal.invariant-loop-a
invariant-loop-a l = (z target : ℕ → ℤ)
    → ((a : ℕ) → a < length l.values → (slice_index l.values a ≡ residue_of (z a)) × (2 * unsigned_abs (z a) < PRIME))
    → ((a : ℕ) (p : Place) → slice_get l.places a ≡ Some p → signed p.negative (z a) ≡ target p.index)
    → (a : ℕ) (p : Place) → a < l.a → slice_get l.places a ≡ Some p → slice_index_or l.sums p.index (pos 0) ≡ target p.index
