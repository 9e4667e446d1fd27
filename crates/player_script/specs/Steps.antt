-- What one line more does to the lanes and to the frames that reads ask for.
use Rattle.std.specs.Prelude.{ℕ, ◌+◌, ◌==◌, nat_lt, List, [], ◌∷◌, ◌++◌, map, Option, Some, None}
use Rattle.std.specs.List.{slice_split}
use Rattle.std.specs.Option.{option_map}
use Rattle.model_script.specs.declared.limits.TheConstants.{MOST_LANES, MOST_FRAMES, LINE_FEED}
use Rattle.model_script.specs.declared.command.Command.{Command}
use Rattle.model_script.specs.declared.command.Line.{Line}
use Rattle.model_script.specs.declared.command.Line.TheVariants as lines
use Rattle.model_script.specs.declared.fault.Which.TheVariants as limits
use Rattle.model_script.specs.declared.fault.ScriptFault.{ScriptFault}
use Rattle.model_script.specs.declared.fault.ScriptFault.TheVariants as faults
use Rattle.model_script.specs.Lines.{when, first_some, words_of, line_of, cause_of}
use Rattle.model_script.specs.Scripts.{IsRight, frames_of, lanes_in}

abbrev pub IsRightLine : Line → Type 0
IsRightLine lines.Lane = Unit {0}
IsRightLine (lines.Gives command) = IsRight command

-- the words of each line of a text whose lines are parted by line feeds
abbrev pub worded : List ℕ → List (List (List ℕ))
worded text = map words_of (slice_split (λ b. b == LINE_FEED) text)

-- the lanes, the last of them with this command behind its commands
abbrev pub given : Command → List (List Command) → List (List Command)
given command [] = []
given command (lane ∷ []) = (lane ++ command ∷ []) ∷ []
given command (lane ∷ next ∷ lanes) = lane ∷ given command (next ∷ lanes)

-- the lanes with what a line says
abbrev pub lanes_with : List (List Command) → Line → List (List Command)
lanes_with lanes lines.Lane = lanes ++ [] ∷ []
lanes_with lanes (lines.Gives command) = given command lanes

-- which limit a line of this number passes behind so many lanes and reads of so many frames
abbrev pub limit_by : ℕ → ℕ → Line → ℕ → Option ScriptFault
limit_by lanes frames line number = first_some
    (when (nat_lt MOST_LANES (lanes + lanes_in (line ∷ []))) (faults.Limit limits.Lanes number)
    ∷ when (nat_lt MOST_FRAMES (frames + frames_of line)) (faults.Limit limits.Frames number) ∷ [])

abbrev pub limit_of_said : ℕ → ℕ → ℕ → Option Line → Option ScriptFault
limit_of_said lanes frames number None = None
limit_of_said lanes frames number (Some line) = limit_by lanes frames line number

-- why a line of this number and these words is refused there
abbrev pub refusal_by : ℕ → ℕ → List (List ℕ) → ℕ → Option ScriptFault
refusal_by lanes frames words number = first_some
    (option_map (faults.Line number) (cause_of (nat_lt 0 lanes) words)
    ∷ limit_of_said lanes frames number (line_of words) ∷ [])
