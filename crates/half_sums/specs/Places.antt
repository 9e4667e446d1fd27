-- Where a step of the cosine finds its bin, and its sum.
use Rattle.std.specs.Prelude.{ℕ, ◌≡◌, ◌⊎◌, ◌+◌, ◌-◌, ◌*◌, ◌/◌, ◌%◌, ◌<◌, ◌≤◌, ℤ, pos, neg_ℤ, unsigned_abs, Bool, nat_lt, if◌then◌else◌, List, slice_index_or}
use Rattle.model_synthesis.specs.declared.limits.TheConstants.{SPECTRUM_LIMIT}
use Rattle.model_synthesis.specs.Tables.{wave}
use Rattle.half_sums.specs.declared.places.Place.{Place}
use Rattle.half_sums.specs.HalfSums.{half_place}

abbrev pub signed : Bool → ℤ → ℤ
signed negative z = if negative then neg_ℤ z else z

-- each bin of a spectrum is within its limit
abbrev pub AreBins : List ℤ → Type 0
AreBins spectrum = (k : ℕ) → unsigned_abs (slice_index_or spectrum k (pos 0)) ≤ SPECTRUM_LIMIT

-- a step within a turn of 4 * size steps, as blocks of a size have them, which is odd
pub record IsTurn (size step : ℕ) : Type 0 where
  pub few : size ≤ 8192
  pub even : size % 4 ≡ 0
  pub some : 0 < size
  pub within : step < 4 * size
  pub odd : step % 2 ≡ 1

-- each wave whose quarter is given by bins has at the step the value that the place says
abbrev pub IsBinPlace : ℕ → ℕ → Place → Type 0
IsBinPlace size step place =
    (place.index < size / 2)
    × ((f : ℕ → ℤ) → wave size (λ u. f (u / 2)) step ≡ signed place.negative (f place.index))

-- how far a step is from the nearest half turn
abbrev pub IsNear : ℕ → ℕ → ℕ → Type 0
IsNear size step near = (near ≡ step % (2 * size)) ⊎ (near + step % (2 * size) ≡ 2 * size)

-- the half sum that belongs to steps so near to a half turn
abbrev pub sum_index : ℕ → ℕ → ℕ
sum_index size near =
    if nat_lt near (size / 2) then (size - 1 - near) / 2 else (near - size / 2 - 1) / 2

-- the step by which the half sum at an index goes
abbrev pub sum_step : ℕ → ℕ → ℕ
sum_step size index = 2 * half_place size index + 1 + size / 2

-- the sum at the place is that at the step, up to its sign
pub record IsSumPlace (size step : ℕ) (place : Place) : Type 0 where
  pub within : place.index < size / 2
  pub index : (near : ℕ) → near < size → IsNear size step near → place.index ≡ sum_index size near
  pub same :
      (f : ℕ → ℤ) (x : ℕ)
      → x % 2 ≡ 1
      → wave size f (sum_step size place.index * x) ≡ signed place.negative (wave size f (step * x))
