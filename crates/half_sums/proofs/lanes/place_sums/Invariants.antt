use Rattle.std.proofs.Common.{◌≡◌, ℕ, ◌<◌, ◌+ℤ◌, ℤ, pos, length, slice_get, slice_index, slice_index_or, Some}
use Rattle.half_sums.specs.declared.places.Place.{Place}
use Rattle.half_sums.specs.Places.{signed}
use Rattle.half_sums.proofs.lanes.place_sums.Given as goal

abbrev pub invariant-loop-a : goal.invariant-loop-a
invariant-loop-a l =
    (z target : ℕ → ℤ)
    → ((i : ℕ) → i < length l.values → pos (slice_index l.values i) ≡ (z i +ℤ pos l.raised))
    → ((i : ℕ) (p : Place) → slice_get l.places i ≡ Some p → signed p.negative (z i) ≡ target p.index)
    → (i : ℕ) (p : Place) → i < l.a → slice_get l.places i ≡ Some p → slice_index_or l.sums p.index (pos 0) ≡ target p.index
