-- Coupling, spectra and sums on small values.
use Rattle.std.proofs.Common.{◌≡◌, refl, ◌^◌, ℕ, pos, negsuc, List, [], ◌∷◌}
use Rattle.std.specs.Prelude.{replicate, neg_ℤ}
use Rattle.model_setup.specs.declared.setup.Coupling.{Coupling}
use Rattle.model_synthesis.specs.Tables.{ConstantTables, wave}
use Rattle.model_synthesis.specs.Coupling.{uncoupled, first_of, first_channel, second_channel, without_step, without_steps}
use Rattle.model_synthesis.specs.Spectrum.{shaped_bin}
use Rattle.model_synthesis.specs.Transform.{sum_at}

both_above : uncoupled (pos 5) (pos 2) ≡ (pos 5, pos 3)
both_above = refl

angle_below : uncoupled (pos 5) (negsuc 1) ≡ (pos 3, pos 5)
angle_below = refl

magnitude_below : uncoupled (negsuc 4) (pos 2) ≡ (negsuc 4, negsuc 2)
magnitude_below = refl

both_below : uncoupled (negsuc 4) (negsuc 1) ≡ (negsuc 2, negsuc 4)
both_below = refl

no_magnitude : uncoupled (pos 0) (pos 2) ≡ (pos 0, pos 2)
no_magnitude = refl

no_angle : uncoupled (negsuc 4) (pos 0) ≡ (negsuc 4, negsuc 4)
no_angle = refl

neither : uncoupled (pos 0) (pos 0) ≡ (pos 0, pos 0)
neither = refl

past_the_limit : first_of (negsuc 0) (pos 7) ≡ negsuc 0
past_the_limit = refl

-- two steps share channel 1: the second step is undone first
abbrev steps : List Coupling
steps = record { magnitude = 0; angle = 1 } ∷ record { magnitude = 1; angle = 2 } ∷ []

last_step_first : without_steps steps ((pos 4 ∷ []) ∷ (pos 3 ∷ []) ∷ (pos 1 ∷ []) ∷ [])
    ≡ (pos 4 ∷ []) ∷ (pos 1 ∷ []) ∷ (pos 2 ∷ []) ∷ []
unfolding without_steps without_step first_channel second_channel
last_step_first = refl

-- tables whose decibel values and cosines are all the same
abbrev even_tables : ℕ → ℕ → ConstantTables
even_tables decibel cosine = record {
  scale = 23;
  decibels = decibel ∷ [];
  slopes = [];
  cosines = replicate 8192 cosine;
}

-- -3 * 2 ^ 24 / 2 ^ 26, rounded down
rounded_down : shaped_bin (even_tables (2 ^ 24) 0) (negsuc 2) 0 ≡ negsuc 0
rounded_down = refl

at_the_limit : shaped_bin (even_tables (2 ^ 30) 0) (pos (2 ^ 24)) 0 ≡ pos (2 ^ 27)
at_the_limit = refl

limited_above : shaped_bin (even_tables (2 ^ 30) 0) (pos (2 ^ 32)) 0 ≡ pos (2 ^ 27)
limited_above = refl

limited_below : shaped_bin (even_tables (2 ^ 30) 0) (neg_ℤ (pos (2 ^ 32))) 0 ≡ neg_ℤ (pos (2 ^ 27))
limited_below = refl

-- of bin 0 alone, in a block of 64 values, the cosine is above 0 for the first 16 values
last_above : sum_at (even_tables 0 1) 64 (pos 1 ∷ []) 15 ≡ pos 1
unfolding sum_at wave
last_above = refl

first_below : sum_at (even_tables 0 1) 64 (pos 1 ∷ []) 16 ≡ negsuc 0
unfolding sum_at wave
first_below = refl

last_below : sum_at (even_tables 0 1) 64 (pos 1 ∷ []) 63 ≡ negsuc 0
unfolding sum_at wave
last_below = refl
