-- The courses that an errand can take, each from its first event to its last one.
use Rattle.std.specs.Prelude.{ℕ, Bool, true, false, List, [], ◌∷◌, Option, Some, None}
use Rattle.model_replay.specs.declared.event.Event.{Event}
use Rattle.model_replay.specs.declared.event.Event.TheVariants.{PinBlock, UnpinBlock, LeaseBlock, PinSetup, UnpinSetup, LeaseSetup, PublishSetup}
use Rattle.model_replay.specs.declared.event.How.{How}
use Rattle.model_replay.specs.declared.event.How.TheVariants.{Found, Made, Left}
use Rattle.model_replay.specs.Errands.{Step, event_of, next_of, end_of, given}

-- what an errand meets; where it decodes, the flag says whether it won the lease of the block
pub data Course : Type 0 where
  -- its bank has the block
  BlockFound : Course
  -- its bank does not have it, the lease is refused, and no half is wanted
  BlockHeld : Course
  -- the bank of setups has the setup
  SetupFound : Bool → Course
  -- the bank of setups does not have it, and the errand reads it for all hands
  SetupWon : Bool → Course
  -- the bank of setups does not have it, and the errand reads it for itself alone
  SetupHeld : Bool → Course

-- Each course begins with a pin of the block. One that decodes asks for the block's lease, then for
-- the setup, and ends as it puts the block into its bank, or keeps it for the hand alone.
abbrev pub events_in : ℕ → ℕ → Course → List Event
events_in block link BlockFound = PinBlock block true ∷ UnpinBlock block ∷ []
events_in block link BlockHeld = PinBlock block false ∷ LeaseBlock block false ∷ []
events_in block link (SetupFound won) =
    PinBlock block false ∷ LeaseBlock block won ∷ PinSetup link true ∷ UnpinSetup link
    ∷ given won block ∷ []
events_in block link (SetupWon won) =
    PinBlock block false ∷ LeaseBlock block won ∷ PinSetup link false ∷ LeaseSetup link true
    ∷ PublishSetup link ∷ given won block ∷ []
events_in block link (SetupHeld won) =
    PinBlock block false ∷ LeaseBlock block won ∷ PinSetup link false ∷ LeaseSetup link false
    ∷ given won block ∷ []

abbrev pub how_of : Course → How
how_of BlockFound = Found
how_of BlockHeld = Left
how_of (SetupFound won) = Made
how_of (SetupWon won) = Made
how_of (SetupHeld won) = Made

-- an errand that wants a half does not leave
abbrev pub IsCourseOf : Bool → Course → Type 0
IsCourseOf true course = Unit {0}
IsCourseOf false BlockFound = Unit {0}
IsCourseOf false BlockHeld = ⊥
IsCourseOf false (SetupFound won) = Unit {0}
IsCourseOf false (SetupWon won) = Unit {0}
IsCourseOf false (SetupHeld won) = Unit {0}

-- ---- turns by what banks answer in each

-- the event of a turn stands in front of those of the turns after it, unless the errand ends
abbrev pub after_turn : Event → Option How → List Event × Option How → List Event × Option How
after_turn event None rest = (event ∷ rest.0, rest.1)
after_turn event (Some how) rest = (event ∷ [], Some how)

-- the events of an errand from a step on, and how it ends if there are answers enough
unfoldable pub turns : ℕ → ℕ → Bool → Step → List Bool → List Event × Option How
turns block link warm step [] = ([], None)
turns block link warm step (answer ∷ answers) =
    after_turn (event_of block link step answer) (end_of warm step answer)
    (turns block link warm (next_of warm step answer) answers)
