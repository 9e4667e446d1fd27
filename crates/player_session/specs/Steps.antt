-- What the steps of a run lead to.
use Rattle.std.specs.Prelude.{◌≡◌, ℕ, ◌≤◌, ◌<◌, ◌⊎◌, List, Result, MatchResult, ⊤, string_bytes, string_len, String}
use Rattle.std.specs.declared.alloc.Global.{Global}
use Rattle.model_player.specs.declared.status.Status.{Status}
use Rattle.model_player.specs.declared.status.Status.TheVariants as statuses
use Rattle.model_player.specs.Texts.{memory_line}
use Rattle.model_player.specs.Courses.{Puts, at_once, in_parts, Duty, refuses, Course}
use Rattle.model_player.specs.Outcome.{ShelfRun, SinkRun, Gains, Begins, Breaks, IsKept, Tries, MayComeTo}
use Rattle.player_session.specs.declared.stops.Stop.{Stop}
use Rattle.player_session.specs.declared.stops.Stop.TheVariants as stops

-- ---- reading files

-- a call of a shelf lies within a run of it
pub record LiesWithin (run call : ShelfRun) : Type 0 where
  pub told : (name : List ℕ) → call.told name ≡ run.told name
  pub before : (name : List ℕ) → run.faults_before name ≤ call.faults_before name
  pub after : (name : List ℕ) → call.faults_after name ≤ run.faults_after name

-- the statuses of refusals
abbrev pub IsRefusal : Status → Type 0
IsRefusal statuses.Ok = ⊥
IsRefusal statuses.Output = ⊥
IsRefusal statuses.Memory = ⊥
IsRefusal status = Unit {0}

-- a refusal with this status and this line, of which this is so
pub record IsRefused (P : Duty → Type 0) (status : Status) (line : String Global) : Type 0 where
  pub due : P (refuses status (string_bytes line))
  pub fits : IsRefusal status
  pub some : 0 < string_len line

-- what stops a command is a refusal of which this is so, or want of memory
abbrev pub StopsBy : (Duty → Type 0) → Stop → Type 0
StopsBy P (stops.Refused status line) = IsRefused P status line
StopsBy P stops.Memory = ⊤

-- Reading goes on along a course: whatever the course may come to by what was read, it may come to;
-- or reading is stopped by a refusal that the course may come to.
abbrev pub GoesOn : {X : Type 0} → ShelfRun → Course → (X → Course) → Result X Stop → Type 0
GoesOn run course next result = MatchResult result
    (λ value. (duty : Duty) → MayComeTo (next value) run duty → MayComeTo course run duty)
    (StopsBy (MayComeTo course run))

-- ---- writing

-- what writing the line of a refusal leads to, which goes with a status
abbrev pub Finishes : Status → List ℕ → SinkRun → Status → Type 0
Finishes due line notes result =
    ((result ≡ due) × Gains notes line)
    ⊎ (((result ≡ statuses.Output) × Breaks notes line)
    ⊎ ((result ≡ statuses.Memory) × Tries notes memory_line))

-- what writing the line of a stop leads to
abbrev pub FinishesStop : Stop → SinkRun → Status → Type 0
FinishesStop (stops.Refused status line) notes result =
    Finishes status (string_bytes line) notes result
FinishesStop stops.Memory notes result =
    (result ≡ statuses.Memory) × Tries notes memory_line

-- what is on `out` where memory ran out while an output was written
abbrev pub LeavesOff : Puts → List ℕ → SinkRun → Type 0
LeavesOff at_once bytes out = IsKept out
LeavesOff in_parts bytes out = Begins out bytes

-- what writing the output leads to
abbrev pub Writes : Puts → List ℕ → SinkRun → SinkRun → Status → Type 0
Writes puts bytes out notes statuses.Ok = Gains out bytes × IsKept notes
Writes puts bytes out notes statuses.Output = Breaks out bytes × IsKept notes
Writes puts bytes out notes statuses.Memory = Tries notes memory_line × LeavesOff puts bytes out
Writes puts bytes out notes status = ⊥
