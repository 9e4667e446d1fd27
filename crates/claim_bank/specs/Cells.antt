-- What a bank for one thread keeps in each of its cells.
use Rattle.std.specs.Prelude.{ℕ, List, Option, Some, None}
use Rattle.model_replay.specs.declared.slot.Slot.{Slot}
use Rattle.model_replay.specs.declared.slot.Slot.TheVariants.{Empty, Taken, Holds}
use Rattle.claim_bank.specs.declared.core_bank.Cell.{Cell}

-- what callers see of a bank
pub record Bank (T : Type 0) : Type 0 where
  pub tag : T
  pub slots : List Slot

module _ {T V : Type 0} (fits : T → ℕ → V → Type 0) (tag : T) where
  -- a slot that holds a key has a value, and the value meets the fact of that key
  abbrev pub IsKept : Slot → Option V → Type 0
  IsKept Empty value = Unit {0}
  IsKept (Taken hand key) value = Unit {0}
  IsKept (Holds key pins) None = ⊥
  IsKept (Holds key pins) (Some value) = fits tag key value

  abbrev pub CellFits : Cell V → Type 0
  CellFits cell = IsKept cell.slot cell.value
