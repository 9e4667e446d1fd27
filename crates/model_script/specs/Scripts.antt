-- What a script is: lanes of commands, or the first cause why it is refused.
use Rattle.std.specs.Prelude.{ℕ, ◌+◌, ◌-◌, ◌^◌, ◌<◌, ◌≤◌, Bool, true, false, ◌==◌, nat_eq, nat_lt, if◌then◌else◌, List, [], ◌∷◌, length, map, take, count_by, Option, Some, None, Result, Ok, Err, slice_get}
use Rattle.std.specs.List.{All, ends_with, filter_map, range_with_len, slice_split, sum_by}
use Rattle.std.specs.Option.{option_map, option_and_then}
use Rattle.model_script.specs.declared.limits.TheConstants.{GREATEST_CURSOR, GREATEST_READ, MOST_LANES, MOST_FRAMES, LINE_FEED}
use Rattle.model_script.specs.declared.command.Command.{Command}
use Rattle.model_script.specs.declared.command.Command.TheVariants as commands
use Rattle.model_script.specs.declared.command.Line.{Line}
use Rattle.model_script.specs.declared.command.Line.TheVariants as lines
use Rattle.model_script.specs.declared.fault.Which.TheVariants as limits
use Rattle.model_script.specs.declared.fault.ScriptFault.{ScriptFault}
use Rattle.model_script.specs.declared.fault.ScriptFault.TheVariants as faults
use Rattle.model_script.specs.Lines.{when, first_some, words_of, line_of, cause_of}

-- ---- lines

-- bytes without the line feed at their end, if one is there
abbrev pub without_last_feed : List ℕ → List ℕ
without_last_feed bytes =
    if ends_with nat_eq bytes (LINE_FEED ∷ []) then take (length bytes - 1) bytes else bytes

-- The lines of a script. Each ends in a line feed, which the last may lack; a script without bytes
-- has none.
abbrev pub lines_of : List ℕ → List (List ℕ)
lines_of [] = []
lines_of (byte ∷ bytes) = slice_split (λ b. b == LINE_FEED) (without_last_feed (byte ∷ bytes))

-- each line by its words
unfoldable pub worded_lines : List ℕ → List (List (List ℕ))
worded_lines bytes = map words_of (lines_of bytes)

-- what lines say, those left out whose first word is unknown
unfoldable pub said : List (List (List ℕ)) → List Line
said lines = filter_map line_of lines

-- ---- limits

abbrev pub begins_lane : Line → Bool
begins_lane lines.Lane = true
begins_lane (lines.Gives command) = false

-- how many lanes lines begin
abbrev pub lanes_in : List Line → ℕ
lanes_in xs = count_by begins_lane xs

abbrev pub frames_of_command : Command → ℕ
frames_of_command (commands.Read c n) = n
frames_of_command _ = 0

-- how many frames a line asks for
abbrev pub frames_of : Line → ℕ
frames_of lines.Lane = 0
frames_of (lines.Gives command) = frames_of_command command

-- how many frames the reads of lines ask for together
abbrev pub frames_in : List Line → ℕ
frames_in xs = sum_by frames_of xs

-- ---- the first refusal

-- Why the line at a place is refused, if it is: by its own first cause; or with it there are too
-- many lanes, or the reads ask for too many frames. Lines are numbered from 1.
abbrev pub refusal_at : List (List (List ℕ)) → ℕ → Option ScriptFault
refusal_at lines place =
    let begun = nat_lt 0 (lanes_in (said (take place lines))) in
    let through = said (take (place + 1) lines) in
    let number = place + 1 in
    first_some (option_map (faults.Line number)
    (option_and_then (cause_of begun) (slice_get lines place))
    ∷ when (nat_lt MOST_LANES (lanes_in through)) (faults.Limit limits.Lanes number)
    ∷ when (nat_lt MOST_FRAMES (frames_in through)) (faults.Limit limits.Frames number) ∷ [])

-- why the first line is refused that is, if there is one
unfoldable pub first_refusal : List (List (List ℕ)) → Option ScriptFault
first_refusal lines = first_some (map (refusal_at lines) (range_with_len 0 (length lines)))

-- ---- lanes

-- the commands before the next lane
abbrev pub next_commands : List Line → List Command
next_commands [] = []
next_commands (lines.Lane ∷ xs) = []
next_commands (lines.Gives command ∷ xs) = command ∷ next_commands xs

-- the lanes that lines begin, each with its commands
abbrev pub lanes_of : List Line → List (List Command)
lanes_of [] = []
lanes_of (lines.Lane ∷ xs) = next_commands xs ∷ lanes_of xs
lanes_of (lines.Gives command ∷ xs) = lanes_of xs

-- a command's numbers are in their ranges
abbrev pub IsRight : Command → Type 0
IsRight (commands.Open c) = c ≤ GREATEST_CURSOR
IsRight (commands.Read c n) = (c ≤ GREATEST_CURSOR) × (0 < n) × (n ≤ GREATEST_READ)
IsRight (commands.Seek c p) = (c ≤ GREATEST_CURSOR) × (p < 2 ^ 64)
IsRight (commands.Lap c p) = (c ≤ GREATEST_CURSOR) × (p < 2 ^ 64)
IsRight (commands.Cross c d) = (c ≤ GREATEST_CURSOR) × (d ≤ GREATEST_CURSOR)
IsRight (commands.Tell c) = c ≤ GREATEST_CURSOR
IsRight (commands.Close c) = c ≤ GREATEST_CURSOR

-- lanes as a script may have them
pub record AreLanes (lanes : List (List Command)) : Type 0 where
  pub few : length lanes ≤ MOST_LANES
  pub right : All (All IsRight) lanes

-- ---- scripts

abbrev pub lanes_unless : List Line → Option ScriptFault → Result (List (List Command)) ScriptFault
lanes_unless xs None = Ok (lanes_of xs)
lanes_unless xs (Some fault) = Err fault

-- the lanes of a script, or the first cause why it is refused
unfoldable pub script_of : List ℕ → Result (List (List Command)) ScriptFault
script_of bytes =
    let lines = worded_lines bytes in lanes_unless (said lines) (first_refusal lines)
