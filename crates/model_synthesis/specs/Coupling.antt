-- How coupled channels are taken apart again (Vorbis I, section 4.3.5): a coupling step names a
-- channel of magnitudes and one of angles, and makes of them the values of two channels.
use Rattle.std.specs.Prelude.{◌≡◌, ℕ, ℤ, pos, ◌+ℤ◌, ◌-ℤ◌, int_lt, if◌then◌else◌, List, [], length, map, fold, reverse, slice_index_or, slice_set}
use Rattle.std.specs.List.{All, range_with_len}
use Rattle.model_fixed.specs.Fixed.{IsWithinLimit, limited}
use Rattle.model_setup.specs.declared.setup.Coupling.{Coupling}

-- the values of both channels in a bin, from its magnitude and its angle
abbrev pub uncoupled : ℤ → ℤ → ℤ × ℤ
uncoupled magnitude angle =
    if int_lt (pos 0) magnitude
    then (if int_lt (pos 0) angle
    then (magnitude, magnitude -ℤ angle)
    else (magnitude +ℤ angle, magnitude))
    else (if int_lt (pos 0) angle
    then (magnitude, magnitude +ℤ angle)
    else (magnitude -ℤ angle, magnitude))

-- the same, limited as values are: what stands in place of the magnitude, and of the angle
abbrev pub first_of : ℤ → ℤ → ℤ
first_of magnitude angle = limited (uncoupled magnitude angle).0

abbrev pub second_of : ℤ → ℤ → ℤ
second_of magnitude angle = limited (uncoupled magnitude angle).1

-- bin by bin, from the values of two channels
abbrev pub each_bin : (ℤ → ℤ → ℤ) → List ℤ → List ℤ → List ℤ
each_bin value magnitudes angles =
    map (λ k. value (slice_index_or magnitudes k (pos 0)) (slice_index_or angles k (pos 0)))
    (range_with_len 0 (length magnitudes))

-- what stands in place of the magnitudes, and of the angles
unfoldable pub first_channel : List ℤ → List ℤ → List ℤ
first_channel = each_bin first_of

unfoldable pub second_channel : List ℤ → List ℤ → List ℤ
second_channel = each_bin second_of

-- the values of a channel
abbrev pub channel : List (List ℤ) → ℕ → List ℤ
channel channels number = slice_index_or channels number []

-- all channels after one step
unfoldable pub without_step : List (List ℤ) → Coupling → List (List ℤ)
without_step channels step =
    let magnitudes = channel channels step.magnitude in
    let angles = channel channels step.angle in
    slice_set (slice_set channels step.magnitude (first_channel magnitudes angles))
    step.angle (second_channel magnitudes angles)

-- all channels after all steps: the last step is undone first
unfoldable pub without_steps : List Coupling → List (List ℤ) → List (List ℤ)
without_steps steps channels = fold without_step channels (reverse steps)

-- how many bins each channel has
abbrev pub bin_count : List (List ℤ) → ℕ
bin_count channels = length (channel channels 0)

-- channels of so many bins, none of them past the limit
pub record AreChannels (size : ℕ) (channels : List (List ℤ)) : Type 0 where
  pub sizes : All (λ bins. length bins ≡ size) channels
  pub small : All (All IsWithinLimit) channels
