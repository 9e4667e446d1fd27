-- Claims on the slots of a bank. The hands keep them, and the slots count them.
use Rattle.std.specs.Prelude.{◌≡◌, ℕ, ◌+◌, ◌<◌, ◌==◌, ◌&&◌, List, if◌then◌else◌}
use Rattle.model_replay.specs.declared.slot.Slot.{Slot}
use Rattle.model_replay.specs.declared.slot.Slot.TheVariants.{Taken, Holds}
use Rattle.model_replay.specs.Slots.{slot_of, after_unpin, after_abandon}

-- what one hand holds of a bank: at most a pin of a key, or its own lease of one
pub data Claim : Type 0 where
  Nothing : Claim
  Pin : ℕ → Claim
  Lease : ℕ → ℕ → Claim

-- 1 where the claims are the same, else 0; to hold nothing is no claim
abbrev pub weight : Claim → Claim → ℕ
weight (Pin key) (Pin other) = if key == other then 1 else 0
weight (Lease hand key) (Lease by other) = if hand == by && key == other then 1 else 0
weight _ _ = 0

-- how many holders of a claim its slot tells of
abbrev pub told : Slot → Claim → ℕ
told (Holds kept pins) (Pin key) = if kept == key then pins else 0
told (Taken by kept) (Lease hand key) = if hand == by && key == kept then 1 else 0
told _ _ = 0

-- how many holders of a claim the slots tell of
abbrev pub stands : List Slot → Claim → ℕ
stands slots Nothing = 0
stands slots (Pin key) = told (slot_of slots key) (Pin key)
stands slots (Lease hand key) = told (slot_of slots key) (Lease hand key)

-- a claim that is held stands in its slot
abbrev pub IsStanding : List Slot → Claim → Type 0
IsStanding slots Nothing = Unit {0}
IsStanding slots (Pin key) = 0 < stands slots (Pin key)
IsStanding slots (Lease hand key) = 0 < stands slots (Lease hand key)

-- the slots after a claim was given back unused
abbrev pub after_return : Claim → List Slot → List Slot
after_return Nothing slots = slots
after_return (Pin key) slots = after_unpin key slots
after_return (Lease hand key) slots = after_abandon key slots

-- The slots change as the claim of one hand does, from `held` to `next`: every other claim has as
-- many holders as before.
abbrev pub Fit : List Slot → Claim → List Slot → Claim → Type 0
Fit slots held after next =
    (x : Claim) → stands slots x + weight x next ≡ stands after x + weight x held
