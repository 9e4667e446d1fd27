-- The lanes of a script: what the commands of each answer from what is heard of a film.
use Rattle.std.specs.Prelude.{ℕ, ◌+◌, ◌==◌, if◌then◌else◌, List, [], ◌∷◌, replicate, Option, Some, None, slice_set, slice_index_or}
use Rattle.model_line.specs.Decode.{LineItem}
use Rattle.model_line.specs.Blocks.{Frame}
use Rattle.model_cursor.specs.Cursors.{CursorState, start, tell, read, seek}
use Rattle.model_cursor.specs.Splices.{Splicing, lap, crossed}
use Rattle.model_cursor.specs.Plans.{sought_reply}
use Rattle.model_script.specs.declared.limits.TheConstants.{GREATEST_CURSOR}
use Rattle.model_script.specs.declared.command.Command.{Command}
use Rattle.model_script.specs.declared.command.Command.TheVariants as commands
use Rattle.model_script.specs.declared.command.Answer.{Answer}
use Rattle.model_script.specs.declared.command.Answer.TheVariants as answers

-- What is heard of a film, from which commands are answered: its line, what splices rest on besides
-- it, and how many channels the link of each number has.
pub record Heard : Type 0 where
  pub line : List (LineItem Frame)
  pub splicing : Splicing
  pub channels : ℕ → ℕ

-- ---- one cursor

-- a cursor of a lane: closed, or open and in some state
abbrev pub LaneCursor : Type 0
LaneCursor = Option CursorState

-- What a command answers where its cursor is open and in this state, and the cursor then. To open
-- it once more, or to cross it with itself, changes nothing.
abbrev pub open_answer : Heard → Command → CursorState → Answer × LaneCursor
open_answer heard (commands.Open c) s = (answers.AlreadyOpen, Some s)
open_answer heard (commands.Read c n) s =
    let given = read heard.line n s in (answers.Given given.0, Some given.1)
open_answer heard (commands.Seek c p) s =
    let sought = seek heard.line p s in (answers.Given (sought_reply sought.0), Some sought.1)
open_answer heard (commands.Lap c p) s =
    let sought = lap heard.splicing heard.line p s in
    (answers.Given (sought_reply sought.0), Some sought.1)
open_answer heard (commands.Cross c d) s = (answers.Ok, Some s)
open_answer heard (commands.Tell c) s = (answers.Told (tell heard.line s), Some s)
open_answer heard (commands.Close c) s = (answers.Ok, None)

-- where its cursor is closed: only to open it does something, from the beginning of the line
abbrev pub closed_answer : Command → Answer × LaneCursor
closed_answer (commands.Open c) = (answers.Ok, Some start)
closed_answer _ = (answers.NoCursor, None)

abbrev pub cursor_answer : Heard → Command → LaneCursor → Answer × LaneCursor
cursor_answer heard command None = closed_answer command
cursor_answer heard command (Some s) = open_answer heard command s

-- ---- two cursors

-- What a cross from an old cursor to a new one, which is another, answers, and the new one then:
-- where both are open it goes over to where the new one is, and else nothing changes.
abbrev pub cross_answer : Heard → LaneCursor → LaneCursor → Answer × LaneCursor
cross_answer heard None new = (answers.NoCursor, new)
cross_answer heard (Some old) None = (answers.NoCursor, None)
cross_answer heard (Some old) (Some new) =
    (answers.Ok, Some (crossed heard.splicing heard.line old new))

-- ---- a lane

-- The number of the cursor that a command names, which is the only one that it may change. Of the
-- two that a cross names it is the new one.
abbrev pub cursor_of : Command → ℕ
cursor_of (commands.Open c) = c
cursor_of (commands.Read c n) = c
cursor_of (commands.Seek c p) = c
cursor_of (commands.Lap c p) = c
cursor_of (commands.Cross c d) = d
cursor_of (commands.Tell c) = c
cursor_of (commands.Close c) = c

-- the cursor of this number
abbrev pub cursor_at : List LaneCursor → ℕ → LaneCursor
cursor_at cursors number = slice_index_or cursors number None

-- what a command answers to the cursors of its lane, and its own cursor then
abbrev pub answer_among : Heard → List LaneCursor → Command → Answer × LaneCursor
answer_among heard cursors (commands.Cross c d) =
    if c == d then cursor_answer heard (commands.Cross c d) (cursor_at cursors d)
    else cross_answer heard (cursor_at cursors c) (cursor_at cursors d)
answer_among heard cursors command =
    cursor_answer heard command (cursor_at cursors (cursor_of command))

-- the cursors with which a lane begins: all are closed
abbrev pub all_closed : List LaneCursor
all_closed = replicate (GREATEST_CURSOR + 1) None

-- what a command answers to the cursors of its lane, and the cursors then: its own is as it leaves
-- it, and the others are as before
unfoldable pub lane_answer : Heard → List LaneCursor → Command → Answer × List LaneCursor
lane_answer heard cursors command =
    let answered = answer_among heard cursors command in
    (answered.0, slice_set cursors (cursor_of command) answered.1)

-- what the commands of a lane answer, one after the other
unfoldable pub lane_answers : Heard → List LaneCursor → List Command → List Answer
lane_answers heard cursors [] = []
lane_answers heard cursors (command ∷ commands) =
    let answered = lane_answer heard cursors command in
    answered.0 ∷ lane_answers heard answered.1 commands
