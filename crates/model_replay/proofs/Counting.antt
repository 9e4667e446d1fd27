-- The pins and the leases of a bank are as many as its hands hold: the sums change as a claim does.
use Rattle.std.proofs.Common.{◌≡◌, ℕ, ◌+◌, ◌-◌, ◌<◌, ◌^◌, true, List, length, refl, arith}
use Rattle.std.proofs.lemmas.List.Sums.{sum_by-set}
use Rattle.std.proofs.lemmas.Bool.Decides.{nat_tests}
use Rattle.model_replay.specs.declared.slot.Slot.{Slot}
use Rattle.model_replay.specs.declared.slot.Slot.TheVariants.{Empty, Taken, Holds}
use Rattle.model_replay.specs.Slots.{place, slot_of, with_slot, is_found, is_won, one_more, one_less, after_unpin, after_publish, after_abandon, pins_of, leases_of, pins_in, leases_in, IsPinned, IsLeased}
use Rattle.model_replay.specs.Claims.{Claim, Nothing, Pin, Lease}

-- the sums where the slot of a key is put
module _ (slots : List Slot) (key : ℕ) (slot : Slot) (some : 0 < length slots) where
  pub pins_put : pins_in (with_slot slots key slot) + pins_of (slot_of slots key)
      ≡ pins_in slots + pins_of slot
  pins_put = sum_by-set pins_of slots (place slots key) slot Empty (omega arith)

  pub leases_put : leases_in (with_slot slots key slot) + leases_of (slot_of slots key)
      ≡ leases_in slots + leases_of slot
  leases_put = sum_by-set leases_of slots (place slots key) slot Empty (omega arith)

-- ---- what a claim weighs in the sums

abbrev pub pin_weight : Claim → ℕ
pin_weight Nothing = 0
pin_weight (Pin key) = 1
pin_weight (Lease hand key) = 0

abbrev pub lease_weight : Claim → ℕ
lease_weight Nothing = 0
lease_weight (Pin key) = 0
lease_weight (Lease hand key) = 1

-- the sums change as the claim of one hand does, from `held` to `next`
abbrev pub Counted : List Slot → Claim → List Slot → Claim → Type 0
Counted slots held after next =
    (pins_in slots + pin_weight next ≡ pins_in after + pin_weight held)
    × (leases_in slots + lease_weight next ≡ leases_in after + lease_weight held)

module _ (slots : List Slot) (key : ℕ) (some : 0 < length slots) where
  counted_put : (slot : Slot) (held next : Claim)
      → pins_of (slot_of slots key) + pin_weight next ≡ pins_of slot + pin_weight held
      → leases_of (slot_of slots key) + lease_weight next ≡ leases_of slot + lease_weight held
      → Counted slots held (with_slot slots key slot) next
  counted_put slot held next pins leases =
      let p = pins_put slots key slot some in
      let l = leases_put slots key slot some in
      (omega arith, omega arith)

  pub pin_counted : is_found (slot_of slots key) key ≡ true
      → pins_of (slot_of slots key) < 2 ^ 32 - 1
      → Counted slots Nothing (with_slot slots key (one_more (slot_of slots key))) (Pin key)
  pin_counted found few = from (slot_of slots key) refl found few
    where
      from : (s : Slot) → slot_of slots key ≡ s → is_found s key ≡ true → pins_of s < 2 ^ 32 - 1
          → Counted slots Nothing (with_slot slots key (one_more s)) (Pin key)
      from Empty is found few = cc
      from (Taken h k) is found few = cc
      from (Holds k p) is found few =
          counted_put (one_more (Holds k p)) Nothing (Pin key)
          (rw is (grind (arith, nat_tests))) (rw is refl)

  pub unpin_counted : IsPinned (slot_of slots key) key
      → Counted slots (Pin key) (after_unpin key slots) Nothing
  unpin_counted held = from (slot_of slots key) refl held
    where
      from : (s : Slot) → slot_of slots key ≡ s → IsPinned s key
          → Counted slots (Pin key) (with_slot slots key (one_less s)) Nothing
      from Empty is held = absurd held
      from (Taken h k) is held = absurd held
      from (Holds k p) is held =
          let some = held.1 in
          counted_put (one_less (Holds k p)) (Pin key) Nothing (rw is (omega arith)) (rw is refl)

  module _ (hand : ℕ) where
    pub lease_counted : is_won (slot_of slots key) key ≡ true
        → Counted slots Nothing (with_slot slots key (Taken hand key)) (Lease hand key)
    lease_counted won = from (slot_of slots key) refl won
      where
        from : (s : Slot) → slot_of slots key ≡ s → is_won s key ≡ true
            → Counted slots Nothing (with_slot slots key (Taken hand key)) (Lease hand key)
        from Empty is won = counted_put (Taken hand key) Nothing (Lease hand key) (rw is refl) (rw is refl)
        from (Taken h k) is won = cc
        from (Holds k p) is won =
            counted_put (Taken hand key) Nothing (Lease hand key)
            (rw is (grind (arith, nat_tests))) (rw is refl)

    given_counted : (after : Slot) → pins_of after ≡ 0 → leases_of after ≡ 0
        → IsLeased (slot_of slots key) key
        → Counted slots (Lease hand key) (with_slot slots key after) Nothing
    given_counted after pins leases held = from (slot_of slots key) refl held
      where
        from : (s : Slot) → slot_of slots key ≡ s → IsLeased s key
            → Counted slots (Lease hand key) (with_slot slots key after) Nothing
        from Empty is held = absurd held
        from (Holds k p) is held = absurd held
        from (Taken h k) is held =
            counted_put after (Lease hand key) Nothing
            (rw (is, pins) refl) (rw (is, leases) refl)

    pub publish_counted : IsLeased (slot_of slots key) key
        → Counted slots (Lease hand key) (after_publish key slots) Nothing
    publish_counted held = given_counted (Holds key 0) refl refl held

    pub abandon_counted : IsLeased (slot_of slots key) key
        → Counted slots (Lease hand key) (after_abandon key slots) Nothing
    abandon_counted held = given_counted Empty refl refl held
