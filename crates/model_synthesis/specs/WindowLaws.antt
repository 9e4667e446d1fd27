-- Laws of windows, overlaps and samples that hold for all tables.
use Rattle.std.specs.Prelude.{◌≡◌, ℕ, ◌+◌, ◌-◌, ◌*◌, ◌/◌, ◌^◌, ◌<◌, ◌≤◌, ◌⊎◌, ℤ, pos, ◌+ℤ◌, ◌*ℤ◌, ◌≤ℤ◌, ◌<ℤ◌, neg_ℤ, Bool, nat_lt, if◌then◌else◌, List, length, reverse}
use Rattle.model_setup.specs.HeaderPackets.{IsBlockSize}
use Rattle.model_synthesis.specs.declared.window_form.WindowForm.{WindowForm}
use Rattle.model_synthesis.specs.Tables.{ConstantTables, AreTables, slope}
use Rattle.model_synthesis.specs.Windows.{IsWindowForm, side_size, window_at}
use Rattle.model_synthesis.specs.Overlaps.{overlap_len, overlapped}
use Rattle.model_synthesis.specs.Samples.{pcm}

-- ---- windows

-- No value of a window is above 1.
abbrev pub WindowsAreSmall : Type 0
WindowsAreSmall =
    (tables : ConstantTables) (form : WindowForm) (i : ℕ)
    → AreTables tables
    → window_at tables form i ≤ 2 ^ tables.scale

-- the form of a window that is turned round
abbrev pub turned : WindowForm → WindowForm
turned form = record { size = form.size; left = form.right; right = form.left }

-- Turned round, a window is that of the same block between the same neighbours in the other order.
-- So it is symmetric where both neighbours are alike.
abbrev pub WindowsTurnRound : Type 0
WindowsTurnRound =
    (tables : ConstantTables) (form : WindowForm) (i : ℕ)
    → IsWindowForm form
    → i < form.size
    → window_at tables (turned form) (form.size - 1 - i) ≡ window_at tables form i

-- Two neighbours have one slope on the sides where they meet.
abbrev pub NeighboursShareASlope : Type 0
NeighboursShareASlope =
    (short long : ℕ) (first_is_long second_is_long : Bool)
    → side_size short first_is_long second_is_long (if first_is_long then long else short)
    ≡ side_size short second_is_long first_is_long (if second_is_long then long else short)

-- value j of a window where k zeros are put before the first
abbrev pub window_behind_zeros : ConstantTables → WindowForm → ℕ → ℕ → ℕ
window_behind_zeros tables form j k = if nat_lt j k then 0 else window_at tables form (j - k)

-- What the windows of a block and of the next one have at one frame: one of them has 1 and the
-- other 0, or both have a value of the slope of this size, at places that are mirrored.
abbrev pub Meet : ConstantTables → ℕ → ℕ → ℕ → Type 0
Meet tables size first second =
    ((first ≡ 2 ^ tables.scale) × (second ≡ 0))
    ⊎ (((place : ℕ)
    × ((place < size) × (first ≡ slope tables size (size - 1 - place))
    × (second ≡ slope tables size place)))
    ⊎ ((first ≡ 0) × (second ≡ 2 ^ tables.scale)))

-- So the windows of neighbours meet at each frame that they give.
abbrev pub WindowsMeet : Type 0
WindowsMeet =
    (tables : ConstantTables) (first second : WindowForm) (j : ℕ)
    → IsWindowForm first
    → IsWindowForm second
    → first.right ≡ second.left
    → j < overlap_len first.size second.size
    → Meet tables (first.right / 2)
    (window_at tables first (first.size / 2 + j))
    (window_behind_zeros tables second (j + second.size / 4) (first.size / 4))

-- ---- overlaps

-- Halves that are turned round give, in the other order, the same frames turned round.
abbrev pub OverlapsTurnRound : Type 0
OverlapsTurnRound =
    (right left : List ℤ)
    → IsBlockSize (2 * length right)
    → IsBlockSize (2 * length left)
    → overlapped (reverse left) (reverse right) ≡ reverse (overlapped right left)

-- ---- samples

-- A sample is one of 16 bits.
abbrev pub SamplesHave16Bits : Type 0
SamplesHave16Bits = (v : ℤ) → (neg_ℤ (pos (2 ^ 15)) ≤ℤ pcm v) × (pcm v <ℤ pos (2 ^ 15))

-- The value lies at most half a sample below its sample, and less than half a sample above it,
-- unless it is past all samples; then it has the last of them.
abbrev pub SamplesAreNearest : Type 0
SamplesAreNearest =
    (v : ℤ)
    → ((neg_ℤ (pos (2 ^ 20 + 16)) ≤ℤ v) → (v <ℤ pos (2 ^ 20 - 16))
    → ((pcm v *ℤ pos 32) ≤ℤ (v +ℤ pos 16)) × (v <ℤ ((pcm v *ℤ pos 32) +ℤ pos 16)))
    × ((v <ℤ neg_ℤ (pos (2 ^ 20))) → pcm v ≡ neg_ℤ (pos (2 ^ 15)))
    × ((pos (2 ^ 20 - 16) ≤ℤ v) → pcm v ≡ pos (2 ^ 15 - 1))
