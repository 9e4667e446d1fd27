-- Windows, overlaps and samples on small values.
use Rattle.std.proofs.Common.{◌≡◌, refl, ◌-◌, ◌^◌, pos, negsuc, neg_ℤ, [], ◌∷◌, ◌++◌, true, false}
use Rattle.std.specs.List.{range_with_len}
use Rattle.model_synthesis.specs.Tables.{ConstantTables}
use Rattle.model_synthesis.specs.Windows.{window_form, window_at, weighted}
use Rattle.model_synthesis.specs.Overlaps.{overlapped}
use Rattle.model_synthesis.specs.Samples.{pcm}

-- the slope of size 32 is 100, 101 and so on, that of size 64 is 200, 201 and so on
tables : ConstantTables
tables = record {
  scale = 23;
  decibels = [];
  slopes = range_with_len 100 32 ++ range_with_len 200 64;
  cosines = [];
}

-- a short block has the slopes of short blocks on both sides
short_begins : window_at tables (window_form 64 false false false 64) 0 ≡ 100
unfolding tables
short_begins = refl

short_rises : window_at tables (window_form 64 false true true 64) 31 ≡ 131
unfolding tables
short_rises = refl

short_falls : window_at tables (window_form 64 false false false 64) 32 ≡ 131
unfolding tables
short_falls = refl

short_ends : window_at tables (window_form 64 false false false 64) 63 ≡ 100
unfolding tables
short_ends = refl

-- a long block of 128 behind a short one and before a long one
silent_before : window_at tables (window_form 64 true false true 128) 15 ≡ 0
unfolding tables
silent_before = refl

rises_late : window_at tables (window_form 64 true false true 128) 16 ≡ 100
unfolding tables
rises_late = refl

risen_early : window_at tables (window_form 64 true false true 128) 47 ≡ 131
unfolding tables
risen_early = refl

between_slopes : window_at tables (window_form 64 true false true 128) 48 ≡ 2 ^ 23
unfolding tables
between_slopes = refl

falls_at_once : window_at tables (window_form 64 true false true 128) 64 ≡ 263
unfolding tables
falls_at_once = refl

falls_to_the_end : window_at tables (window_form 64 true false true 128) 127 ≡ 200
unfolding tables
falls_to_the_end = refl

-- and one behind a long block and before a short one
falls_late : window_at tables (window_form 64 true true false 128) 80 ≡ 131
unfolding tables
falls_late = refl

silent_behind : window_at tables (window_form 64 true true false 128) 112 ≡ 0
unfolding tables
silent_behind = refl

-- a weight of a half, and the least weight, under which a value below zero is rounded down
half : weighted 23 (pos 262144) (2 ^ 22) ≡ pos 131072
half = refl

rounded_down : weighted 23 (negsuc 0) 1 ≡ negsuc 0
rounded_down = refl

-- halves of neighbours: both of four values, the first of eight, the second of eight
alike : overlapped (pos 1 ∷ pos 2 ∷ []) (pos 10 ∷ pos 20 ∷ []) ≡ pos 11 ∷ pos 22 ∷ []
unfolding overlapped
alike = refl

long_first : overlapped (pos 1 ∷ pos 2 ∷ pos 3 ∷ pos 4 ∷ []) (pos 10 ∷ pos 20 ∷ []) ≡ pos 1 ∷ pos 12 ∷ pos 23 ∷ []
unfolding overlapped
long_first = refl

long_second : overlapped (pos 1 ∷ pos 2 ∷ []) (pos 10 ∷ pos 20 ∷ pos 30 ∷ pos 40 ∷ []) ≡ pos 21 ∷ pos 32 ∷ pos 40 ∷ []
unfolding overlapped
long_second = refl

-- samples of values between two of them, and past all of them
nearly_half : pcm (pos 15) ≡ pos 0
nearly_half = refl

half_up : pcm (pos 16) ≡ pos 1
half_up = refl

half_down : pcm (negsuc 15) ≡ pos 0
half_down = refl

more_than_half_down : pcm (negsuc 16) ≡ negsuc 0
more_than_half_down = refl

highest : pcm (pos (2 ^ 20 - 17)) ≡ pos 32767
highest = refl

too_high : pcm (pos (2 ^ 40)) ≡ pos 32767
too_high = refl

lowest : pcm (neg_ℤ (pos (2 ^ 20))) ≡ neg_ℤ (pos 32768)
lowest = refl

too_low : pcm (neg_ℤ (pos (2 ^ 40))) ≡ neg_ℤ (pos 32768)
too_low = refl
