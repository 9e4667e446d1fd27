-- The window of a block (Vorbis I, section 4.3.1).
use Rattle.std.specs.Prelude.{ℕ, ◌+◌, ◌-◌, ◌*◌, ◌/◌, ◌^◌, ◌≤◌, ℤ, pos, ◌*ℤ◌, Bool, nat_lt, if◌then◌else◌, List, length, map}
use Rattle.std.specs.List.{range_with_len}
use Rattle.model_fixed.specs.Fixed.{shift_down}
use Rattle.model_setup.specs.HeaderPackets.{IsBlockSize}
use Rattle.model_synthesis.specs.declared.window_form.WindowForm.{WindowForm}
use Rattle.model_synthesis.specs.Tables.{ConstantTables, slope}
use Rattle.model_synthesis.specs.Transform.{IsBlockValue}
use Rattle.model_synthesis.specs.Overlaps.{value_at}

-- ---- the form of a window

-- The size of the blocks whose slope a block of a size has towards a neighbour: of short ones,
-- where it is long and the neighbour is short; else its own.
abbrev pub side_size : ℕ → Bool → Bool → ℕ → ℕ
side_size short is_long neighbour_is_long size =
    if is_long then (if neighbour_is_long then size else short) else size

-- the form of the window of a block, which may be long, as may be the blocks before it and after it
abbrev pub window_form : ℕ → Bool → Bool → Bool → ℕ → WindowForm
window_form short is_long previous_is_long next_is_long size = record {
  size = size;
  left = side_size short is_long previous_is_long size;
  right = side_size short is_long next_is_long size;
}

pub record IsWindowForm (form : WindowForm) : Type 0 where
  pub size : IsBlockSize form.size
  pub left : IsBlockSize form.left
  pub right : IsBlockSize form.right
  pub left_within : form.left ≤ form.size
  pub right_within : form.right ≤ form.size

-- ---- the values of a window

-- where the left slope begins, and the place behind it: it is half as long as the blocks whose
-- slope it is, and its middle is a quarter of the block from the beginning
abbrev pub left_start : WindowForm → ℕ
left_start form = form.size / 4 - form.left / 4

abbrev pub left_end : WindowForm → ℕ
left_end form = form.size / 4 + form.left / 4

-- where the right slope begins, and the place behind it: its middle is a quarter of the block from
-- the end
abbrev pub right_start : WindowForm → ℕ
right_start form = 3 * form.size / 4 - form.right / 4

abbrev pub right_end : WindowForm → ℕ
right_end form = 3 * form.size / 4 + form.right / 4

-- the left slope, which rises, and the right slope, which is such a slope backwards
abbrev pub rising : ConstantTables → WindowForm → ℕ → ℕ
rising tables form i = slope tables (form.left / 2) (i - left_start form)

abbrev pub falling : ConstantTables → WindowForm → ℕ → ℕ
falling tables form i =
    slope tables (form.right / 2) (form.right / 2 - 1 - (i - right_start form))

-- value i of a window, in units of 2 ^ -scale: 0 before the left slope, 1 between the slopes, 0
-- behind the right one
abbrev pub window_at : ConstantTables → WindowForm → ℕ → ℕ
window_at tables form i =
    if nat_lt i (left_start form) then 0
    else (if nat_lt i (left_end form) then rising tables form i
    else (if nat_lt i (right_start form) then 2 ^ tables.scale
    else (if nat_lt i (right_end form) then falling tables form i
    else 0)))

-- ---- a block under its window

-- the values of a block within their limit
abbrev pub AreBlockValues : List ℤ → Type 0
AreBlockValues values = (i : ℕ) → IsBlockValue (value_at values i)

-- the value times the weight, which is in units of 2 ^ -scale, rounded down
abbrev pub weighted : ℕ → ℤ → ℕ → ℤ
weighted scale v weight = shift_down (v *ℤ pos weight) scale

-- value i of a block under its window
abbrev pub windowed_at : ConstantTables → WindowForm → List ℤ → ℕ → ℤ
windowed_at tables form values i =
    weighted tables.scale (value_at values i) (window_at tables form i)

-- the values of a block under its window
unfoldable pub windowed : ConstantTables → WindowForm → List ℤ → List ℤ
windowed tables form values =
    map (windowed_at tables form values) (range_with_len 0 (length values))
