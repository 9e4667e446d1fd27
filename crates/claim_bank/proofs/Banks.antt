-- A change of one cell is a change of one slot, and sums over cells are sums over slots.
use Rattle.std.proofs.Common.{◌≡◌, ℕ, zero, suc, ◌∷◌, ◌%◌, ◌<◌, List, length, map, All, get_or, set, replicate, Option, None, refl, sym, ap, subst, ◌∙◌}
use Rattle.std.proofs.lemmas.List.{map-set, get_or-map, get_or-set_same, length-set}
use Rattle.std.proofs.lemmas.List.Elements.{All-set, All-get_or}
use Rattle.model_replay.specs.declared.slot.Slot.{Slot}
use Rattle.model_replay.specs.declared.slot.Slot.TheVariants.{Empty}
use Rattle.model_replay.specs.Slots.{slot_of, with_slot}
use Rattle.claim_bank.specs.declared.core_bank.Cell.{Cell}
use Rattle.claim_bank.specs.Cells.{IsKept, CellFits}

-- the slot that was put is the slot of its key
pub slot_put : (slots : List Slot) (key : ℕ) (slot : Slot) → key % length slots < length slots
    → slot_of (with_slot slots key slot) key ≡ slot
slot_put slots key slot within =
    rw (length-set slots (key % length slots) slot)
    (get_or-set_same slots (key % length slots) slot Empty within)

module _ {V : Type 0} where
  abbrev pub slots_in : List (Cell V) → List Slot
  slots_in cells = map (λ cell. cell.slot) cells

  abbrev pub vacant : Cell V
  vacant = record { slot = Empty; value = None }

  module _ (cells : List (Cell V)) (slots : List Slot) (at key : ℕ) (is : slots_in cells ≡ slots)
      (here : at ≡ key % length slots) where
    pub put_slot : (cell : Cell V) → slots_in (set cells at cell) ≡ with_slot slots key cell.slot
    put_slot cell =
        let e : slots_in (set cells at cell) ≡ set (slots_in cells) at cell.slot
        = map-set (λ (x : Cell V). x.slot) cells at cell in
        e ∙ rw (is, here) refl

    pub slot_at : (d : Cell V) → at < length cells → (get_or cells at d).slot ≡ slot_of slots key
    slot_at d within =
        let e : get_or (slots_in cells) at Empty ≡ (get_or cells at d).slot
        = get_or-map (λ (x : Cell V). x.slot) cells at d Empty within in
        sym e ∙ rw (is, here) refl

    -- a slot may take the place of another one if it fits whatever value that one fits
    pub recounted : {T : Type 0} (fits : T → ℕ → V → Type 0) (tag : T) (slot : Slot) (cell : Cell V)
        → at < length cells → cell ≡ get_or cells at cell
        → ((value : Option V) → IsKept fits tag (slot_of slots key) value
        → IsKept fits tag slot value)
        → All (CellFits fits tag) cells
        → All (CellFits fits tag) (set cells at (record { slot = slot; value = cell.value }))
    recounted {T} fits tag slot cell within found ok all =
        let old : CellFits fits tag cell
        = rw found (All-get_or (CellFits fits tag) cells at cell within all) in
        let was : cell.slot ≡ slot_of slots key
        = ap (λ (x : Cell V). x.slot) found ∙ slot_at cell within in
        All-set (CellFits fits tag) cells at (record { slot = slot; value = cell.value })
        (ok cell.value (subst (λ (x : Slot). IsKept fits tag x cell.value) was old)) all

pub all_empty : (V : Type 0) (n : ℕ) → slots_in (replicate n (vacant {V = V})) ≡ replicate n Empty
all_empty V zero = refl
all_empty V (suc n) = ap (λ (slots : List Slot). Empty ∷ slots) (all_empty V n)
