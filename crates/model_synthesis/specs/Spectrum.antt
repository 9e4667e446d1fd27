-- A spectrum: the product of a residue and a floor's curve (Vorbis I, section 4.3.6).
use Rattle.std.specs.Prelude.{ℕ, ◌≤◌, ℤ, pos, ◌*ℤ◌, unsigned_abs, List, length, map, slice_index, slice_index_or}
use Rattle.std.specs.List.{range_with_len}
use Rattle.model_fixed.specs.Fixed.{clamp, shift_down}
use Rattle.model_synthesis.specs.declared.limits.TheConstants.{SPECTRUM_LIMIT, SHAPE_SHIFT}
use Rattle.model_synthesis.specs.Tables.{ConstantTables, decibel}

-- a bin within its limit
abbrev pub IsBin : ℤ → Type 0
IsBin v = unsigned_abs v ≤ SPECTRUM_LIMIT

-- the bin that a value of a residue and a height of a curve make: their product, divided once,
-- rounded down and limited
abbrev pub shaped_bin : ConstantTables → ℤ → ℕ → ℤ
shaped_bin tables value height =
    clamp SPECTRUM_LIMIT (shift_down (value *ℤ pos (decibel tables height)) SHAPE_SHIFT)

-- the spectrum of a residue and a curve
unfoldable pub shaped : ConstantTables → List ℤ → List ℕ → List ℤ
shaped tables residue curve =
    map (λ k. shaped_bin tables (slice_index_or residue k (pos 0)) (slice_index curve k))
    (range_with_len 0 (length residue))
