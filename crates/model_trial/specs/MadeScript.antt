-- The made scripts: lanes of two cursors, whose commands are drawn; and how a script is written.
use Rattle.std.specs.Prelude.{◌≡◌, ℕ, ◌+◌, ◌%◌, ◌^◌, ◌≤◌, ◌==◌, nat_lt, if◌then◌else◌, List, [], ◌∷◌, ◌++◌, map, Ok}
use Rattle.std.specs.List.{flat_map}
use Rattle.model_script.specs.declared.limits.TheConstants.{LINE_FEED, MOST_FRAMES}
use Rattle.model_script.specs.declared.command.Command.{Command}
use Rattle.model_script.specs.declared.command.Command.TheVariants as commands
use Rattle.model_script.specs.declared.command.Line.{Line}
use Rattle.model_script.specs.declared.command.Line.TheVariants as lines
use Rattle.model_script.specs.declared.command.Verb.TheVariants as verbs
use Rattle.model_script.specs.Lines.{name_of}
use Rattle.model_script.specs.Scripts.{AreLanes, frames_in, script_of}
use Rattle.model_script.specs.Texts.{command_text}
use Rattle.model_trial.specs.declared.numbers.TheConstants.{MADE_LANES, MADE_COMMANDS}
use Rattle.model_trial.specs.Draws.{Draw, generator, draw, give, ◌>>=◌, draws}

-- ---- how a script is written

-- what a line says, without its end
abbrev pub line_text : Line → List ℕ
line_text lines.Lane = name_of verbs.Lane
line_text (lines.Gives command) = command_text command

abbrev pub ended_line : Line → List ℕ
ended_line line = line_text line ++ LINE_FEED ∷ []

abbrev pub command_line : Command → List ℕ
command_line command = ended_line (lines.Gives command)

-- the lines of a lane
abbrev pub lane_lines : List Command → List Line
lane_lines lane = lines.Lane ∷ map (λ command. lines.Gives command) lane

-- the lines of a script
abbrev pub script_lines : List (List Command) → List Line
script_lines lanes = flat_map lane_lines lanes

-- the script that has these lanes
abbrev pub script_text : List (List Command) → List ℕ
script_text lanes = flat_map ended_line (script_lines lanes)

-- ---- what is drawn

-- how many frames a read asks for
unfoldable pub drawn_read : ℕ → Draw Command
drawn_read cursor = do
  frames ← draw 2000
  give (commands.Read cursor (1 + frames))

unfoldable pub drawn_seek : ℕ → Draw Command
drawn_seek cursor = do
  place ← draw 400000
  give (commands.Seek cursor place)

unfoldable pub drawn_lap : ℕ → Draw Command
drawn_lap cursor = do
  place ← draw 400000
  give (commands.Lap cursor place)

-- a command of a cursor, of its kind: 0 to 3 read, 4 and 5 go to a place, the others tell
unfoldable pub drawn_for : ℕ → ℕ → Draw Command
drawn_for kind cursor =
    if nat_lt kind 4 then drawn_read cursor
    else (if kind == 4 then drawn_seek cursor
    else (if kind == 5 then drawn_lap cursor else give (commands.Tell cursor)))

unfoldable pub drawn_of_cursor : ℕ → Draw Command
drawn_of_cursor kind = do
  cursor ← draw 2
  drawn_for kind cursor

-- a command: its kind, of which 6 goes from cursor 0 over to cursor 1, and then what it needs
unfoldable pub drawn_by : ℕ → Draw Command
drawn_by kind = if kind == 6 then give (commands.Cross 0 1) else drawn_of_cursor kind

unfoldable pub drawn_command : Draw Command
drawn_command = do
  kind ← draw 8
  drawn_by kind

unfoldable pub drawn_commands : Draw (List Command)
drawn_commands = draws MADE_COMMANDS drawn_command

-- a lane: it opens both cursors first
unfoldable pub drawn_lane : Draw (List Command)
drawn_lane = do
  others ← drawn_commands
  give (commands.Open 0 ∷ commands.Open 1 ∷ others)

unfoldable pub drawn_lanes : Draw (List (List Command))
drawn_lanes = draws MADE_LANES drawn_lane

-- the lanes of a number, by the generator of the number behind it
unfoldable pub made_lanes : ℕ → List (List Command)
made_lanes number = (drawn_lanes (generator ((number + 1) % 2 ^ 64))).0

-- the script of a number
unfoldable pub made_script : ℕ → List ℕ
made_script number = script_text (made_lanes number)

-- ---- laws

-- A script that is written is read as the lanes that it has.
abbrev pub ScriptsReadBack : Type 0
ScriptsReadBack =
    (lanes : List (List Command)) → AreLanes lanes
    → frames_in (script_lines lanes) ≤ MOST_FRAMES
    → script_of (script_text lanes) ≡ Ok lanes

-- Every made script is accepted, and has the lanes that were drawn.
abbrev pub MadeScriptsAreAccepted : Type 0
MadeScriptsAreAccepted =
    (number : ℕ) → script_of (made_script number) ≡ Ok (made_lanes number)
