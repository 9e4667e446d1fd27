-- What holds of every report.
use Rattle.std.specs.Prelude.{◌≡◌, ◌≢◌, ◌⊎◌, ℕ, List, length, Some, None, option_map, slice_get}
use Rattle.model_cursor.specs.Cursors.{CursorState}
use Rattle.model_script.specs.declared.command.Command.{Command}
use Rattle.model_script.specs.declared.command.Command.TheVariants.{Open, Cross}
use Rattle.model_script.specs.declared.command.Answer.TheVariants as answers
use Rattle.model_report.specs.Lanes.{Heard, LaneCursor, cursor_of, cursor_at, lane_answer, lane_answers}
use Rattle.model_report.specs.Reports.{lane_text, lane_texts}

-- The text of a lane is that of its number and its own commands, whatever the other lanes are.
abbrev pub LanesAreApart : Type 0
LanesAreApart = (heard : Heard) (lanes : List (List Command)) (number : ℕ)
    → slice_get (lane_texts heard lanes) number
    ≡ option_map (λ commands. lane_text heard (number, commands)) (slice_get lanes number)

-- Each command of a lane has one answer.
abbrev pub EachHasAnAnswer : Type 0
EachHasAnAnswer = (heard : Heard) (cursors : List LaneCursor) (commands : List Command)
    → length (lane_answers heard cursors commands) ≡ length commands

-- A command changes at most the cursor that it names, and a cross at most the new one: it leaves
-- the cursors of the other numbers as they were.
abbrev pub OthersStay : Type 0
OthersStay = (heard : Heard) (cursors : List LaneCursor) (command : Command) (number : ℕ)
    → number ≢ cursor_of command
    → slice_get (lane_answer heard cursors command).1 number ≡ slice_get cursors number

-- To open a cursor that is open changes no cursor.
abbrev pub OpensOnce : Type 0
OpensOnce = (heard : Heard) (cursors : List LaneCursor) (c : ℕ) (s : CursorState)
    → slice_get cursors c ≡ Some (Some s)
    → lane_answer heard cursors (Open c) ≡ (answers.AlreadyOpen, cursors)

-- To cross a cursor that is open with itself changes no cursor.
abbrev pub CrossesItself : Type 0
CrossesItself = (heard : Heard) (cursors : List LaneCursor) (c : ℕ) (s : CursorState)
    → slice_get cursors c ≡ Some (Some s)
    → lane_answer heard cursors (Cross c c) ≡ (answers.Ok, cursors)

-- A cross of which a cursor isn't open changes no cursor.
abbrev pub CrossesOpenOnes : Type 0
CrossesOpenOnes = (heard : Heard) (cursors : List LaneCursor) (c d : ℕ)
    → (cursor_at cursors c ≡ None) ⊎ (cursor_at cursors d ≡ None)
    → lane_answer heard cursors (Cross c d) ≡ (answers.NoCursor, cursors)
