-- A law about curves, in the words of the standard.
use Rattle.std.specs.Prelude.{◌≡◌, ℕ, ◌<◌, List, length, true, slice_index}
use Rattle.model_setup.specs.declared.floor.Final.{Final}
use Rattle.model_setup.specs.FloorSetup.{FloorSetup, ArePoints}
use Rattle.model_setup.specs.FloorCurve.{final_of, height_of, decibel_number, curve_at}

-- at the bin of a flagged point the curve has the point's height (Vorbis I, section 7.2.4, step 2)
abbrev pub CurveMeetsPoints : Type 0
CurveMeetsPoints =
    (floor : FloorSetup) (finals : List Final) (i : ℕ) → ArePoints floor.x_values
    → i < length floor.x_values → (final_of finals i).flagged ≡ true
    → curve_at floor finals (slice_index floor.x_values i)
    ≡ decibel_number (height_of floor finals i)
