-- What a turn of an errand answers.
use Rattle.std.specs.Prelude.{◌≡◌, ◌↔◌, ℕ, Option, Some, None, option_map}
use Rattle.model_setup.specs.SetupPacket.{SetupFields}
use Rattle.model_line.specs.declared.item.Half.{Half}
use Rattle.model_replay.specs.declared.event.How.{How}
use Rattle.model_replay.specs.Errands as steps
use Rattle.model_replay.specs.Errands.{Step}
use Rattle.film_blocks.specs.KeyedBlocks.{KeyedBlock, half_of}
use Rattle.block_cache.specs.declared.turn.Turn.{Turn}
use Rattle.block_cache.specs.declared.turn.Turn.TheVariants.{Going, Done, Memory}
use Rattle.block_cache.specs.Meanings.{Meaning}

-- the fact of a bank of blocks is "the maker's block of the key", and that of a bank of setups
-- "the maker's setup of the key"
abbrev pub AreBlocksOf : Meaning → (ℕ → KeyedBlock → Type 0) → Type 0
AreBlocksOf meaning fits =
    (key : ℕ) (value : KeyedBlock) → fits key value ↔ (value ≡ meaning.block key)

abbrev pub AreSetupsOf : Meaning → (ℕ → SetupFields → Type 0) → Type 0
AreSetupsOf meaning fits =
    (key : ℕ) (value : SetupFields) → fits key value ↔ (value ≡ meaning.setup key)

-- said of a turn that found memory, and of one that found none
abbrev pub UnlessMemory : Turn → Type 0 → Type 0
UnlessMemory Going P = P
UnlessMemory (Done half how) P = P
UnlessMemory Memory P = Unit {0}

abbrev pub OnMemory : Turn → Type 0 → Type 0
OnMemory Going P = Unit {0}
OnMemory (Done half how) P = Unit {0}
OnMemory Memory P = P

-- an errand that is not done
abbrev pub IsLive : Step → Type 0
IsLive steps.Begin = Unit {0}
IsLive steps.Shown = Unit {0}
IsLive steps.Missed = Unit {0}
IsLive (steps.Asked _) = Unit {0}
IsLive (steps.Pinned _) = Unit {0}
IsLive (steps.Unset _) = Unit {0}
IsLive (steps.Leased _) = Unit {0}
IsLive (steps.Alone _) = Unit {0}
IsLive (steps.Made _) = Unit {0}
IsLive steps.Ended = ⊥

-- A turn goes on where the errand does not end in it. It is done with the half that was asked for,
-- if one was, of the maker's block, where the errand ends in it, in this way. Where no memory was
-- found the errand is over.
abbrev pub IsTurn : KeyedBlock → Option Half → Option How → Step → Turn → Type 0
IsTurn block half end step Going = IsLive step × (end ≡ None)
IsTurn block half end step (Done given how) = (step ≡ steps.Ended)
    × (given ≡ option_map (λ (side : Half). half_of side block) half) × (end ≡ Some how)
IsTurn block half end step Memory = step ≡ steps.Ended
