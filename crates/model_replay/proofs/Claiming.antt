-- What an event does to the slots of a bank, it does to the claims of its hand, and to no other.
use Rattle.std.proofs.Common.{◌≡◌, ◌≢◌, ℕ, ◌+◌, ◌-◌, ◌<◌, ◌%◌, ◌^◌, true, List, length, refl, ap, arith, inl, inr}
use Rattle.std.proofs.lemmas.List.{length-set, get_or-set_same, get_or-set_other}
use Rattle.std.proofs.lemmas.Bool.Decides.{nat_tests}
use Rattle.std.proofs.lemmas.Bool.{cases_eq}
use Rattle.model_replay.specs.declared.slot.Slot.{Slot}
use Rattle.model_replay.specs.declared.slot.Slot.TheVariants.{Empty, Taken, Holds}
use Rattle.model_replay.specs.Slots.{slot_of, with_slot, is_found, is_won, one_more, one_less, after_unpin, after_publish, after_abandon, IsPinned, IsLeased}
use Rattle.model_replay.specs.Claims.{Claim, Nothing, Pin, Lease, weight, told, stands, IsStanding, after_return, Fit}

-- ---- a slot that is put

module _ (slots : List Slot) (key : ℕ) (slot : Slot) (some : 0 < length slots) where
  pub same_place : (k : ℕ) → k % length slots ≡ key % length slots
      → slot_of (with_slot slots key slot) k ≡ slot
  same_place k e =
      rw (length-set slots (key % length slots) slot, e)
      (get_or-set_same slots (key % length slots) slot Empty (omega arith))

  pub other_place : (k : ℕ) → k % length slots ≢ key % length slots
      → slot_of (with_slot slots key slot) k ≡ slot_of slots k
  other_place k e =
      rw (length-set slots (key % length slots) slot)
      (get_or-set_other slots (key % length slots) (k % length slots) slot Empty e)

-- ---- one slot: what it tells before and after

-- it changes as a claim does, from `held` to `next`
abbrev pub SlotFit : Slot → Claim → Slot → Claim → Type 0
SlotFit slot held after next =
    (x : Claim) → told slot x + weight x next ≡ told after x + weight x held

pub told_pin : (slot : Slot) (key : ℕ) → is_found slot key ≡ true
    → told slot (Pin key) < 2 ^ 32 - 1 → SlotFit slot Nothing (one_more slot) (Pin key)
told_pin Empty key found few x = cc
told_pin (Taken h k) key found few x = cc
told_pin (Holds k p) key found few Nothing = refl
told_pin (Holds k p) key found few (Pin j) = grind (arith, nat_tests)
told_pin (Holds k p) key found few (Lease h j) = refl

pub told_unpin : (slot : Slot) (key : ℕ) → 0 < told slot (Pin key)
    → SlotFit slot (Pin key) (one_less slot) Nothing
told_unpin Empty key held x = absurd (omega arith)
told_unpin (Taken h k) key held x = absurd (omega arith)
told_unpin (Holds k p) key held Nothing = refl
told_unpin (Holds k p) key held (Pin j) = grind (arith, nat_tests)
told_unpin (Holds k p) key held (Lease h j) = refl

pub told_lease : (slot : Slot) (hand key : ℕ) → is_won slot key ≡ true
    → SlotFit slot Nothing (Taken hand key) (Lease hand key)
told_lease Empty hand key won Nothing = refl
told_lease Empty hand key won (Pin j) = refl
told_lease Empty hand key won (Lease h j) = grind (arith, nat_tests)
told_lease (Taken h k) hand key won x = cc
told_lease (Holds k p) hand key won Nothing = refl
told_lease (Holds k p) hand key won (Pin j) = grind (arith, nat_tests)
told_lease (Holds k p) hand key won (Lease h j) = grind (arith, nat_tests)

-- a slot that tells of no claim takes the place of a leased one
pub told_given : (slot after : Slot) (hand key : ℕ) → 0 < told slot (Lease hand key)
    → ((x : Claim) → told after x ≡ 0) → SlotFit slot (Lease hand key) after Nothing
told_given Empty after hand key held none x = absurd (omega arith)
told_given (Holds k p) after hand key held none x = absurd (omega arith)
told_given (Taken h k) after hand key held none Nothing = rw (none Nothing) refl
told_given (Taken h k) after hand key held none (Pin j) = rw (none (Pin j)) refl
told_given (Taken h k) after hand key held none (Lease g j) =
    rw (none (Lease g j)) (grind (arith, nat_tests))

pub told_empty : (x : Claim) → told Empty x ≡ 0
told_empty Nothing = refl
told_empty (Pin j) = refl
told_empty (Lease h j) = refl

pub told_fresh : (key : ℕ) (x : Claim) → told (Holds key 0) x ≡ 0
told_fresh key Nothing = refl
told_fresh key (Pin j) = grind (arith, nat_tests)
told_fresh key (Lease h j) = refl

-- ---- all slots

-- the key that a claim is of, if it is any
abbrev pub IsOf : ℕ → Claim → Type 0
IsOf key Nothing = Unit {0}
IsOf key (Pin k) = k ≡ key
IsOf key (Lease hand k) = k ≡ key

no_pin_weight : (key k : ℕ) (c : Claim) → k ≢ key → IsOf key c → weight (Pin k) c ≡ 0
no_pin_weight key k Nothing apart of = refl
no_pin_weight key k (Pin j) apart of = grind (arith, nat_tests)
no_pin_weight key k (Lease h j) apart of = refl

no_lease_weight : (key hand k : ℕ) (c : Claim) → k ≢ key → IsOf key c → weight (Lease hand k) c ≡ 0
no_lease_weight key hand k Nothing apart of = refl
no_lease_weight key hand k (Pin j) apart of = refl
no_lease_weight key hand k (Lease h j) apart of = grind (arith, nat_tests)

-- where the slot of a key changes as a claim on that key does, so do the slots of the bank
pub moved : (slots : List Slot) (key : ℕ) (slot : Slot) (held next : Claim) → 0 < length slots
    → IsOf key held → IsOf key next → SlotFit (slot_of slots key) held slot next
    → Fit slots held (with_slot slots key slot) next
moved slots key slot held next some h n here Nothing = refl
moved slots key slot held next some h n here (Pin k) =
    elim (cases_eq (k % length slots) (key % length slots)) [
      | inl e ↦ rw (same_place slots key slot some k e, e) (here (Pin k))
      | inr apart ↦
          let other : k ≢ key = λ e. apart (ap (λ (i : ℕ). i % length slots) e) in
          rw (
            other_place slots key slot some k apart,
            no_pin_weight key k held other h,
            no_pin_weight key k next other n,
          ) refl
    ]
moved slots key slot held next some h n here (Lease by k) =
    elim (cases_eq (k % length slots) (key % length slots)) [
      | inl e ↦ rw (same_place slots key slot some k e, e) (here (Lease by k))
      | inr apart ↦
          let other : k ≢ key = λ e. apart (ap (λ (i : ℕ). i % length slots) e) in
          rw (
            other_place slots key slot some k apart,
            no_lease_weight key by k held other h,
            no_lease_weight key by k next other n,
          ) refl
    ]

module _ (slots : List Slot) (key : ℕ) (some : 0 < length slots) where
  pub pinned : is_found (slot_of slots key) key ≡ true → stands slots (Pin key) < 2 ^ 32 - 1
      → Fit slots Nothing (with_slot slots key (one_more (slot_of slots key))) (Pin key)
  pinned found few =
      moved slots key (one_more (slot_of slots key)) Nothing (Pin key) some tt refl
      (told_pin (slot_of slots key) key found few)

  pub unpinned : 0 < stands slots (Pin key) → Fit slots (Pin key) (after_unpin key slots) Nothing
  unpinned held =
      moved slots key (one_less (slot_of slots key)) (Pin key) Nothing some refl tt
      (told_unpin (slot_of slots key) key held)

  module _ (hand : ℕ) where
    pub leased : is_won (slot_of slots key) key ≡ true
        → Fit slots Nothing (with_slot slots key (Taken hand key)) (Lease hand key)
    leased won =
        moved slots key (Taken hand key) Nothing (Lease hand key) some tt refl
        (told_lease (slot_of slots key) hand key won)

    pub published : 0 < stands slots (Lease hand key)
        → Fit slots (Lease hand key) (after_publish key slots) Nothing
    published held =
        moved slots key (Holds key 0) (Lease hand key) Nothing some refl tt
        (told_given (slot_of slots key) (Holds key 0) hand key held (told_fresh key))

    pub abandoned : 0 < stands slots (Lease hand key)
        → Fit slots (Lease hand key) (after_abandon key slots) Nothing
    abandoned held =
        moved slots key Empty (Lease hand key) Nothing some refl tt
        (told_given (slot_of slots key) Empty hand key held told_empty)

-- a claim that is given back unused is the only one that goes
pub returned : (slots : List Slot) (held : Claim) → 0 < length slots → IsStanding slots held
    → Fit slots held (after_return held slots) Nothing
returned slots Nothing some standing x = refl
returned slots (Pin key) some standing x = unpinned slots key some standing x
returned slots (Lease hand key) some standing x = abandoned slots key some hand standing x

-- ---- a claim that stands may be used

pub pinned_slot : (slots : List Slot) (key : ℕ) → 0 < stands slots (Pin key)
    → IsPinned (slot_of slots key) key
pinned_slot slots key held = from (slot_of slots key) held
  where
    from : (slot : Slot) → 0 < told slot (Pin key) → IsPinned slot key
    from Empty some = absurd (omega arith)
    from (Taken h k) some = absurd (omega arith)
    from (Holds k p) some = (grind (arith, nat_tests), grind (arith, nat_tests))

pub leased_slot : (slots : List Slot) (hand key : ℕ) → 0 < stands slots (Lease hand key)
    → IsLeased (slot_of slots key) key
leased_slot slots hand key held = from (slot_of slots key) held
  where
    from : (slot : Slot) → 0 < told slot (Lease hand key) → IsLeased slot key
    from Empty some = absurd (omega arith)
    from (Holds k p) some = absurd (omega arith)
    from (Taken h k) some = grind (arith, nat_tests)
