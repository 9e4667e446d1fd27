-- The definitions on small values.
use Rattle.std.proofs.Common.{◌≡◌, refl, ◌^◌, ◌-◌, Bool, true, false, List, [], ◌∷◌, Some, None}
use Rattle.model_replay.specs.declared.slot.Slot.{Slot}
use Rattle.model_replay.specs.declared.slot.Slot.TheVariants.{Empty, Taken, Holds}
use Rattle.model_replay.specs.declared.event.Event.{Event}
use Rattle.model_replay.specs.declared.event.Event.TheVariants.{PinBlock, UnpinBlock, LeaseBlock, PublishBlock, PinSetup, UnpinSetup, LeaseSetup, PublishSetup, Keep}
use Rattle.model_replay.specs.declared.event.How.TheVariants.{Found, Made as Decoded, Left}
use Rattle.model_replay.specs.Slots.{after_pin, after_unpin, after_lease, after_publish, after_abandon, pins_in, leases_in}
use Rattle.model_replay.specs.Errands.{Step, Begin, Missed, Shown, Alone, event_of, next_of, end_of}

-- a bank of two slots: hand 3 has leased the first one for key 6, the second one has key 5 with two pins
bank : List Slot
bank = Taken 3 6 ∷ Holds 5 2 ∷ []

found : after_pin 5 bank ≡ Taken 3 6 ∷ Holds 5 3 ∷ []
unfolding bank
found = refl

other_key : after_pin 7 bank ≡ bank
unfolding bank
other_key = refl

leased_is_no_value : after_pin 6 bank ≡ bank
unfolding bank
leased_is_no_value = refl

most_pins : after_pin 0 (Holds 0 (2 ^ 32 - 1) ∷ []) ≡ Holds 0 (2 ^ 32 - 1) ∷ []
most_pins = refl

given_back : after_unpin 5 bank ≡ Taken 3 6 ∷ Holds 5 1 ∷ []
unfolding bank
given_back = refl

pinned_stays : after_lease 0 7 bank ≡ bank
unfolding bank
pinned_stays = refl

leased_stays : after_lease 0 6 bank ≡ bank
unfolding bank
leased_stays = refl

empty_is_won : after_lease 1 4 (Empty ∷ Empty ∷ []) ≡ Taken 1 4 ∷ Empty ∷ []
empty_is_won = refl

evicted : after_lease 1 7 (Empty ∷ Holds 5 0 ∷ []) ≡ Empty ∷ Taken 1 7 ∷ []
evicted = refl

own_key_stays : after_lease 1 5 (Empty ∷ Holds 5 0 ∷ []) ≡ Empty ∷ Holds 5 0 ∷ []
own_key_stays = refl

published : after_publish 6 bank ≡ Holds 6 0 ∷ Holds 5 2 ∷ []
unfolding bank
published = refl

abandoned : after_abandon 6 bank ≡ Empty ∷ Holds 5 2 ∷ []
unfolding bank
abandoned = refl

pins : pins_in bank ≡ 2
unfolding bank
pins = refl

leases : leases_in bank ≡ 1
unfolding bank
leases = refl

-- ---- errands for block 9 of link 2

-- the events of an errand, by what its banks answer
events : Bool → Step → List Bool → List Event
events warm step [] = []
events warm step (answer ∷ answers) =
    event_of 9 2 step answer ∷ events warm (next_of warm step answer) answers

read : events false Begin (true ∷ true ∷ []) ≡ PinBlock 9 true ∷ UnpinBlock 9 ∷ []
unfolding events
read = refl

made_with_setup : events false Begin (false ∷ true ∷ true ∷ true ∷ true ∷ [])
    ≡ PinBlock 9 false ∷ LeaseBlock 9 true ∷ PinSetup 2 true ∷ UnpinSetup 2 ∷ PublishBlock 9 ∷ []
unfolding events
made_with_setup = refl

made_from_nothing : events false Begin (false ∷ true ∷ false ∷ true ∷ true ∷ true ∷ [])
    ≡ PinBlock 9 false ∷ LeaseBlock 9 true ∷ PinSetup 2 false ∷ LeaseSetup 2 true
    ∷ PublishSetup 2 ∷ PublishBlock 9 ∷ []
unfolding events
made_from_nothing = refl

made_alone : events false Begin (false ∷ false ∷ false ∷ false ∷ true ∷ [])
    ≡ PinBlock 9 false ∷ LeaseBlock 9 false ∷ PinSetup 2 false ∷ LeaseSetup 2 false ∷ Keep 9 ∷ []
unfolding events
made_alone = refl

read_ends : end_of false Shown true ≡ Some Found
read_ends = refl

warm_leaves : end_of true Missed false ≡ Some Left
warm_leaves = refl

others_go_on : end_of false Missed false ≡ None
others_go_on = refl

kept_ends : end_of true (Alone false) true ≡ Some Decoded
kept_ends = refl
