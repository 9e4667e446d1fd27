-- An errand gets one block for a hand, in turns. Each turn makes one event, by what banks answer.
use Rattle.std.specs.Prelude.{◌≡◌, ℕ, Bool, true, false, List, Option, Some, None}
use Rattle.model_replay.specs.declared.slot.Slot.{Slot}
use Rattle.model_replay.specs.declared.event.Event.{Event}
use Rattle.model_replay.specs.declared.event.Event.TheVariants.{PinBlock, UnpinBlock, LeaseBlock, PublishBlock, PinSetup, UnpinSetup, LeaseSetup, PublishSetup, Keep}
use Rattle.model_replay.specs.declared.event.How.{How}
use Rattle.model_replay.specs.declared.event.How.TheVariants.{Found, Made as Decoded, Left}
use Rattle.model_replay.specs.Slots.{slot_of, is_found, is_won, after_pin, after_unpin, after_lease, after_publish}
use Rattle.model_replay.specs.Claims.{Claim, Nothing, Pin, Lease}

-- How far an errand is. From the lease of the block on, the flag says whether it was won.
pub data Step : Type 0 where
  -- no turn yet
  Begin : Step
  -- the block is pinned
  Shown : Step
  -- the block is not in its bank
  Missed : Step
  -- the lease of the block was asked for
  Asked : Bool → Step
  -- the setup is pinned
  Pinned : Bool → Step
  -- the setup is not in its bank
  Unset : Bool → Step
  -- the setup is leased
  Leased : Bool → Step
  -- another hand has the lease of the setup
  Alone : Bool → Step
  -- the block was decoded
  Made : Bool → Step
  Ended : Step

-- ---- one turn

-- a block that was decoded is published where its lease was won
abbrev pub given : Bool → ℕ → Event
given true block = PublishBlock block
given false block = Keep block

-- The event of a turn in which a bank that is asked gives this answer. After `Ended` comes no turn.
abbrev pub event_of : ℕ → ℕ → Step → Bool → Event
event_of block link Begin answer = PinBlock block answer
event_of block link Shown answer = UnpinBlock block
event_of block link Missed answer = LeaseBlock block answer
event_of block link (Asked won) answer = PinSetup link answer
event_of block link (Pinned won) answer = UnpinSetup link
event_of block link (Unset won) answer = LeaseSetup link answer
event_of block link (Leased won) answer = PublishSetup link
event_of block link (Alone won) answer = given won block
event_of block link (Made won) answer = given won block
event_of block link Ended answer = Keep block

-- How far the errand is after the turn. A warm one wants the block in the bank, and no half of it.
abbrev pub next_of : Bool → Step → Bool → Step
next_of warm Begin true = Shown
next_of warm Begin false = Missed
next_of warm Shown answer = Ended
next_of warm Missed true = Asked true
next_of true Missed false = Ended
next_of false Missed false = Asked false
next_of warm (Asked won) true = Pinned won
next_of warm (Asked won) false = Unset won
next_of warm (Pinned won) answer = Made won
next_of warm (Unset won) true = Leased won
next_of warm (Unset won) false = Alone won
next_of warm (Leased won) answer = Made won
next_of warm (Alone won) answer = Ended
next_of warm (Made won) answer = Ended
next_of warm Ended answer = Ended

-- how the errand ends in this turn, if it does
abbrev pub end_of : Bool → Step → Bool → Option How
end_of warm Begin answer = None
end_of warm Shown answer = Some Found
end_of warm Missed true = None
end_of true Missed false = Some Left
end_of false Missed false = None
end_of warm (Asked won) answer = None
end_of warm (Pinned won) answer = None
end_of warm (Unset won) answer = None
end_of warm (Leased won) answer = None
end_of warm (Alone won) answer = Some Decoded
end_of warm (Made won) answer = Some Decoded
end_of warm Ended answer = None

-- the number of blocks that a turn decodes
abbrev pub makes : Step → ℕ
makes Begin = 0
makes Shown = 0
makes Missed = 0
makes (Asked won) = 0
makes (Pinned won) = 1
makes (Unset won) = 0
makes (Leased won) = 1
makes (Alone won) = 1
makes (Made won) = 0
makes Ended = 0

-- the number of blocks that are decoded, while the errand goes on
abbrev pub pending : Step → ℕ
pending Begin = 0
pending Shown = 0
pending Missed = 0
pending (Asked won) = 0
pending (Pinned won) = 0
pending (Unset won) = 0
pending (Leased won) = 0
pending (Alone won) = 0
pending (Made won) = 1
pending Ended = 0

-- the number of turns that are left, at most
abbrev pub turns_left : Step → ℕ
turns_left Begin = 6
turns_left Shown = 1
turns_left Missed = 5
turns_left (Asked won) = 4
turns_left (Pinned won) = 2
turns_left (Unset won) = 3
turns_left (Leased won) = 2
turns_left (Alone won) = 1
turns_left (Made won) = 1
turns_left Ended = 0

-- ---- its banks

-- what the banks answer in the next turn, of the slots of blocks and the slots of setups
abbrev pub asked : ℕ → ℕ → Step → List Slot → List Slot → Bool
asked block link Begin blocks setups = is_found (slot_of blocks block) block
asked block link Shown blocks setups = true
asked block link Missed blocks setups = is_won (slot_of blocks block) block
asked block link (Asked won) blocks setups = is_found (slot_of setups link) link
asked block link (Pinned won) blocks setups = true
asked block link (Unset won) blocks setups = is_won (slot_of setups link) link
asked block link (Leased won) blocks setups = true
asked block link (Alone won) blocks setups = true
asked block link (Made won) blocks setups = true
asked block link Ended blocks setups = true

-- the answer that an event tells
abbrev pub answer_of : Event → Bool
answer_of (PinBlock block found) = found
answer_of (UnpinBlock block) = true
answer_of (LeaseBlock block won) = won
answer_of (PublishBlock block) = true
answer_of (PinSetup link found) = found
answer_of (UnpinSetup link) = true
answer_of (LeaseSetup link won) = won
answer_of (PublishSetup link) = true
answer_of (Keep block) = true

-- the slots of blocks after an event of a hand
abbrev pub blocks_after : ℕ → Event → List Slot → List Slot
blocks_after hand (PinBlock block found) slots = after_pin block slots
blocks_after hand (UnpinBlock block) slots = after_unpin block slots
blocks_after hand (LeaseBlock block won) slots = after_lease hand block slots
blocks_after hand (PublishBlock block) slots = after_publish block slots
blocks_after hand (PinSetup link found) slots = slots
blocks_after hand (UnpinSetup link) slots = slots
blocks_after hand (LeaseSetup link won) slots = slots
blocks_after hand (PublishSetup link) slots = slots
blocks_after hand (Keep block) slots = slots

-- the slots of setups after an event of a hand
abbrev pub setups_after : ℕ → Event → List Slot → List Slot
setups_after hand (PinBlock block found) slots = slots
setups_after hand (UnpinBlock block) slots = slots
setups_after hand (LeaseBlock block won) slots = slots
setups_after hand (PublishBlock block) slots = slots
setups_after hand (PinSetup link found) slots = after_pin link slots
setups_after hand (UnpinSetup link) slots = after_unpin link slots
setups_after hand (LeaseSetup link won) slots = after_lease hand link slots
setups_after hand (PublishSetup link) slots = after_publish link slots
setups_after hand (Keep block) slots = slots

-- an event tells what the slots of blocks answer
abbrev pub BlocksAgree : List Slot → Event → Type 0
BlocksAgree slots (PinBlock block found) = found ≡ is_found (slot_of slots block) block
BlocksAgree slots (UnpinBlock block) = Unit {0}
BlocksAgree slots (LeaseBlock block won) = won ≡ is_won (slot_of slots block) block
BlocksAgree slots (PublishBlock block) = Unit {0}
BlocksAgree slots (PinSetup link found) = Unit {0}
BlocksAgree slots (UnpinSetup link) = Unit {0}
BlocksAgree slots (LeaseSetup link won) = Unit {0}
BlocksAgree slots (PublishSetup link) = Unit {0}
BlocksAgree slots (Keep block) = Unit {0}

-- an event tells what the slots of setups answer
abbrev pub SetupsAgree : List Slot → Event → Type 0
SetupsAgree slots (PinBlock block found) = Unit {0}
SetupsAgree slots (UnpinBlock block) = Unit {0}
SetupsAgree slots (LeaseBlock block won) = Unit {0}
SetupsAgree slots (PublishBlock block) = Unit {0}
SetupsAgree slots (PinSetup link found) = found ≡ is_found (slot_of slots link) link
SetupsAgree slots (UnpinSetup link) = Unit {0}
SetupsAgree slots (LeaseSetup link won) = won ≡ is_won (slot_of slots link) link
SetupsAgree slots (PublishSetup link) = Unit {0}
SetupsAgree slots (Keep block) = Unit {0}

-- ---- the claims that an errand holds between its turns

abbrev pub lease_if : Bool → ℕ → ℕ → Claim
lease_if true hand key = Lease hand key
lease_if false hand key = Nothing

abbrev pub block_claim : ℕ → ℕ → Step → Claim
block_claim hand block Begin = Nothing
block_claim hand block Shown = Pin block
block_claim hand block Missed = Nothing
block_claim hand block (Asked won) = lease_if won hand block
block_claim hand block (Pinned won) = lease_if won hand block
block_claim hand block (Unset won) = lease_if won hand block
block_claim hand block (Leased won) = lease_if won hand block
block_claim hand block (Alone won) = lease_if won hand block
block_claim hand block (Made won) = lease_if won hand block
block_claim hand block Ended = Nothing

abbrev pub setup_claim : ℕ → ℕ → Step → Claim
setup_claim hand link Begin = Nothing
setup_claim hand link Shown = Nothing
setup_claim hand link Missed = Nothing
setup_claim hand link (Asked won) = Nothing
setup_claim hand link (Pinned won) = Pin link
setup_claim hand link (Unset won) = Nothing
setup_claim hand link (Leased won) = Lease hand link
setup_claim hand link (Alone won) = Nothing
setup_claim hand link (Made won) = Nothing
setup_claim hand link Ended = Nothing
