-- What hands may rely on: a lease has one holder and takes no pinned slot, and a pinned key stays.
use Rattle.std.proofs.Common.{◌≡◌, ◌≢◌, ℕ, ◌+◌, ◌<◌, ◌≤◌, ◌%◌, true, List, length, refl, sym, ap, arith}
use Rattle.std.proofs.lemmas.Bool.Decides.{nat_tests}
use Rattle.model_replay.specs.declared.slot.Slot.{Slot}
use Rattle.model_replay.specs.declared.slot.Slot.TheVariants.{Empty, Taken, Holds}
use Rattle.model_replay.specs.Slots.{slot_of, is_found, is_won}
use Rattle.model_replay.specs.Claims.{Claim, Nothing, Pin, Lease, weight, told, stands, Fit}

-- two leases that stand in one slot are one hand's, and of one key
pub one_holder : (slots : List Slot) (g h j k : ℕ) → j % length slots ≡ k % length slots
    → 0 < stands slots (Lease g j) → 0 < stands slots (Lease h k) → (g ≡ h) × (j ≡ k)
one_holder slots g h j k place = rw place (from (slot_of slots k))
  where
    from : (slot : Slot) → 0 < told slot (Lease g j) → 0 < told slot (Lease h k)
        → (g ≡ h) × (j ≡ k)
    from Empty a b = absurd (omega arith)
    from (Holds kept pins) a b = absurd (omega arith)
    from (Taken by kept) a b = (grind (arith, nat_tests), grind (arith, nat_tests))

-- a slot tells of a lease once at most
pub leased_once : (slots : List Slot) (hand key : ℕ) → stands slots (Lease hand key) ≤ 1
leased_once slots hand key = from (slot_of slots key)
  where
    from : (slot : Slot) → told slot (Lease hand key) ≤ 1
    from Empty = omega arith
    from (Holds kept pins) = omega arith
    from (Taken by kept) = grind (arith, nat_tests)

-- no key of a slot that a lease wins has a pin
pub no_pin_won : (slots : List Slot) (key j : ℕ) → j % length slots ≡ key % length slots
    → is_won (slot_of slots key) key ≡ true → stands slots (Pin j) ≡ 0
no_pin_won slots key j place won = rw place (from (slot_of slots key) won)
  where
    from : (slot : Slot) → is_won slot key ≡ true → told slot (Pin j) ≡ 0
    from Empty won = refl
    from (Taken by kept) won = refl
    from (Holds kept pins) won = grind (arith, nat_tests)

-- A pin stays while other claims come and go: only giving back a pin of its key takes one off.
pub pins_stay : (slots after : List Slot) (held next : Claim) (key : ℕ) → Fit slots held after next
    → held ≢ Pin key → stands slots (Pin key) ≤ stands after (Pin key)
pins_stay slots after held next key fit other = from held other (fit (Pin key))
  where
    from : (c : Claim) → c ≢ Pin key
        → stands slots (Pin key) + weight (Pin key) next
        ≡ stands after (Pin key) + weight (Pin key) c
        → stands slots (Pin key) ≤ stands after (Pin key)
    from Nothing other e = omega arith
    from (Lease h k) other e = omega arith
    from (Pin k) other e =
        let apart : key ≢ k = λ same. other (ap Pin (sym same)) in
        grind (arith, nat_tests)

-- the pins that stand in one slot are of one key
pub one_key : (slots : List Slot) (j k : ℕ) → j % length slots ≡ k % length slots
    → 0 < stands slots (Pin j) → 0 < stands slots (Pin k) → j ≡ k
one_key slots j k place = rw place (from (slot_of slots k))
  where
    from : (slot : Slot) → 0 < told slot (Pin j) → 0 < told slot (Pin k) → j ≡ k
    from Empty a b = absurd (omega arith)
    from (Taken by kept) a b = absurd (omega arith)
    from (Holds kept pins) a b = grind (arith, nat_tests)

-- a slot that is leased has no pin
pub no_pin_leased : (slots : List Slot) (hand key j : ℕ) → j % length slots ≡ key % length slots
    → 0 < stands slots (Lease hand key) → stands slots (Pin j) ≡ 0
no_pin_leased slots hand key j place = rw place (from (slot_of slots key))
  where
    from : (slot : Slot) → 0 < told slot (Lease hand key) → told slot (Pin j) ≡ 0
    from Empty held = refl
    from (Taken by kept) held = refl
    from (Holds kept pins) held = absurd (omega arith)

-- a pinned key is found by each hand that asks for it
pub pinned_is_found : (slots : List Slot) (key : ℕ) → 0 < stands slots (Pin key)
    → is_found (slot_of slots key) key ≡ true
pinned_is_found slots key = from (slot_of slots key)
  where
    from : (slot : Slot) → 0 < told slot (Pin key) → is_found slot key ≡ true
    from Empty held = absurd (omega arith)
    from (Taken by kept) held = absurd (omega arith)
    from (Holds kept pins) held = grind (arith, nat_tests)
