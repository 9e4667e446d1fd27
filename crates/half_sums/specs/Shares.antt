-- What the bins of a short block add to its sums.
use Rattle.std.specs.Prelude.{ℕ, ◌+◌, ◌-◌, ◌*◌, ℤ, pos, negsuc, List, slice_index, slice_index_or}
use Rattle.number_transform.specs.Products.{total}
use Rattle.half_sums.specs.declared.places.Place.{Place}
use Rattle.half_sums.specs.Places.{signed}

-- the bin at a place
abbrev pub bin_at : List ℤ → Place → ℤ
bin_at spectrum place = signed place.negative (slice_index_or spectrum place.index (pos 0))

-- where the waves of the bin at the power b begin, of which there are so many
abbrev pub share_start : ℕ → ℤ → ℕ → ℕ
share_start count (pos m) b = count - b
share_start count (negsuc m) b = 2 * count - b

-- the shares of n bins in the sum at a power
abbrev pub share_sum : List ℕ → List ℕ → List ℕ → ℕ → ℕ → ℕ
share_sum magnitudes starts waves n a =
    total n (λ b. slice_index magnitudes b * slice_index waves (slice_index starts b + a))
