-- What a turn of an errand does to the slots, it does to the errand's claims.
use Rattle.std.proofs.Common.{◌≡◌, ℕ, ◌-◌, ◌<◌, ◌^◌, Bool, true, false, List, length, refl, sym}
use Rattle.std.specs.Prelude.{if◌then◌else◌}
use Rattle.model_replay.specs.declared.slot.Slot.{Slot}
use Rattle.model_replay.specs.Slots.{slot_of, is_found, is_won, after_pin, after_lease}
use Rattle.model_replay.specs.Claims.{Nothing, Pin, stands, IsStanding, Fit}
use Rattle.model_replay.specs.Errands.{Step, Begin, Shown, Missed, Asked, Pinned, Unset, Leased, Alone, Made, Ended, event_of, next_of, blocks_after, setups_after, BlocksAgree, SetupsAgree, lease_if, block_claim, setup_claim, given}
use Rattle.model_replay.proofs.Claiming.{pinned, unpinned, leased, published}

module _ (slots : List Slot) (key : ℕ) (some : 0 < length slots) where
  fit_pin : (found : Bool) → stands slots (Pin key) < 2 ^ 32 - 1
      → found ≡ is_found (slot_of slots key) key
      → Fit slots Nothing (after_pin key slots) (if found then Pin key else Nothing)
  fit_pin true few e = rw (sym e) (pinned slots key some (sym e) few)
  fit_pin false few e = rw (sym e) (λ x. refl)

  fit_lease : (hand : ℕ) (won : Bool) → won ≡ is_won (slot_of slots key) key
      → Fit slots Nothing (after_lease hand key slots) (lease_if won hand key)
  fit_lease hand true e = rw (sym e) (leased slots key some hand (sym e))
  fit_lease hand false e = rw (sym e) (λ x. refl)

  fit_given : (hand : ℕ) (won : Bool) → IsStanding slots (lease_if won hand key)
      → Fit slots (lease_if won hand key) (blocks_after hand (given won key) slots) Nothing
  fit_given hand true held = published slots key some hand held
  fit_given hand false held = λ x. refl

same_setups : (hand block : ℕ) (won : Bool) (slots : List Slot)
    → Fit slots Nothing (setups_after hand (given won block) slots) Nothing
same_setups hand block true slots = λ x. refl
same_setups hand block false slots = λ x. refl

module _ (hand block link : ℕ) (warm : Bool) (slots : List Slot) (some : 0 < length slots) where
  pub blocks_fit : (step : Step) (answer : Bool) → IsStanding slots (block_claim hand block step)
      → stands slots (Pin block) < 2 ^ 32 - 1
      → BlocksAgree slots (event_of block link step answer)
      → Fit slots (block_claim hand block step)
      (blocks_after hand (event_of block link step answer) slots)
      (block_claim hand block (next_of warm step answer))
  blocks_fit Begin true held few e = fit_pin slots block some true few e
  blocks_fit Begin false held few e = fit_pin slots block some false few e
  blocks_fit Shown answer held few e = unpinned slots block some held
  blocks_fit Missed true held few e = fit_lease slots block some hand true e
  blocks_fit Missed false held few e = from warm
    where
      from : (w : Bool) → Fit slots Nothing (after_lease hand block slots)
          (block_claim hand block (next_of w Missed false))
      from true = fit_lease slots block some hand false e
      from false = fit_lease slots block some hand false e
  blocks_fit (Asked won) true held few e = λ x. refl
  blocks_fit (Asked won) false held few e = λ x. refl
  blocks_fit (Pinned won) answer held few e = λ x. refl
  blocks_fit (Unset won) true held few e = λ x. refl
  blocks_fit (Unset won) false held few e = λ x. refl
  blocks_fit (Leased won) answer held few e = λ x. refl
  blocks_fit (Alone won) answer held few e = fit_given slots block some hand won held
  blocks_fit (Made won) answer held few e = fit_given slots block some hand won held
  blocks_fit Ended answer held few e = λ x. refl

  pub setups_fit : (step : Step) (answer : Bool) → IsStanding slots (setup_claim hand link step)
      → stands slots (Pin link) < 2 ^ 32 - 1
      → SetupsAgree slots (event_of block link step answer)
      → Fit slots (setup_claim hand link step)
      (setups_after hand (event_of block link step answer) slots)
      (setup_claim hand link (next_of warm step answer))
  setups_fit Begin true held few e = λ x. refl
  setups_fit Begin false held few e = λ x. refl
  setups_fit Shown answer held few e = λ x. refl
  setups_fit Missed true held few e = λ x. refl
  setups_fit Missed false held few e = from warm
    where
      from : (w : Bool) → Fit slots Nothing slots
          (setup_claim hand link (next_of w Missed false))
      from true = λ x. refl
      from false = λ x. refl
  setups_fit (Asked won) true held few e = fit_pin slots link some true few e
  setups_fit (Asked won) false held few e = fit_pin slots link some false few e
  setups_fit (Pinned won) answer held few e = unpinned slots link some held
  setups_fit (Unset won) true held few e = fit_lease slots link some hand true e
  setups_fit (Unset won) false held few e = fit_lease slots link some hand false e
  setups_fit (Leased won) answer held few e = published slots link some hand held
  setups_fit (Alone won) answer held few e = same_setups hand block won slots
  setups_fit (Made won) answer held few e = same_setups hand block won slots
  setups_fit Ended answer held few e = λ x. refl
