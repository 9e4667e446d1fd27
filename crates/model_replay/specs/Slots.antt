-- The slots of a bank. A key has one slot, whose number is the key modulo the number of slots.
use Rattle.std.specs.Prelude.{◌≡◌, ℕ, ◌+◌, ◌-◌, ◌%◌, ◌<◌, ◌^◌, min, ◌==◌, Bool, true, false, not, ◌&&◌, List, length, slice_index_or, slice_set, sum_by, if◌then◌else◌}
use Rattle.model_replay.specs.declared.slot.Slot.{Slot}
use Rattle.model_replay.specs.declared.slot.Slot.TheVariants.{Empty, Taken, Holds}

abbrev pub place : List Slot → ℕ → ℕ
place slots key = key % length slots

abbrev pub slot_of : List Slot → ℕ → Slot
slot_of slots key = slice_index_or slots (place slots key) Empty

abbrev pub with_slot : List Slot → ℕ → Slot → List Slot
with_slot slots key slot = slice_set slots (place slots key) slot

-- ---- what a slot answers

-- a pin of a key finds its value
abbrev pub is_found : Slot → ℕ → Bool
is_found Empty key = false
is_found (Taken hand kept) key = false
is_found (Holds kept pins) key = kept == key

-- A lease of a key wins the slot: it is empty, or it holds another key without a pin, whose value
-- is evicted.
abbrev pub is_won : Slot → ℕ → Bool
is_won Empty key = true
is_won (Taken hand kept) key = false
is_won (Holds kept pins) key = not (kept == key) && pins == 0

-- ---- what becomes of the slots

-- a slot with a pin more; the count stands still at the end of its type
abbrev pub one_more : Slot → Slot
one_more Empty = Empty
one_more (Taken hand kept) = Taken hand kept
one_more (Holds kept pins) = Holds kept (min (pins + 1) (2 ^ 32 - 1))

-- a slot with a pin less
abbrev pub one_less : Slot → Slot
one_less Empty = Empty
one_less (Taken hand kept) = Taken hand kept
one_less (Holds kept pins) = Holds kept (pins - 1)

abbrev pub after_pin : ℕ → List Slot → List Slot
after_pin key slots =
    if is_found (slot_of slots key) key then with_slot slots key (one_more (slot_of slots key))
    else slots

abbrev pub after_unpin : ℕ → List Slot → List Slot
after_unpin key slots = with_slot slots key (one_less (slot_of slots key))

abbrev pub after_lease : ℕ → ℕ → List Slot → List Slot
after_lease hand key slots =
    if is_won (slot_of slots key) key then with_slot slots key (Taken hand key) else slots

abbrev pub after_publish : ℕ → List Slot → List Slot
after_publish key slots = with_slot slots key (Holds key 0)

abbrev pub after_abandon : ℕ → List Slot → List Slot
after_abandon key slots = with_slot slots key Empty

-- ---- what stands in a slot

-- the slot holds the key, with a pin
abbrev pub IsPinned : Slot → ℕ → Type 0
IsPinned Empty key = ⊥
IsPinned (Taken hand kept) key = ⊥
IsPinned (Holds kept pins) key = (kept ≡ key) × (0 < pins)

-- the slot is leased for the key
abbrev pub IsLeased : Slot → ℕ → Type 0
IsLeased Empty key = ⊥
IsLeased (Taken hand kept) key = kept ≡ key
IsLeased (Holds kept pins) key = ⊥

-- ---- sums

abbrev pub pins_of : Slot → ℕ
pins_of Empty = 0
pins_of (Taken hand kept) = 0
pins_of (Holds kept pins) = pins

abbrev pub leases_of : Slot → ℕ
leases_of Empty = 0
leases_of (Taken hand kept) = 1
leases_of (Holds kept pins) = 0

-- all pins of a bank, and all its leases
abbrev pub pins_in : List Slot → ℕ
pins_in slots = sum_by pins_of slots

abbrev pub leases_in : List Slot → ℕ
leases_in slots = sum_by leases_of slots
