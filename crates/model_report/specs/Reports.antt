-- The report of a script: the text of each lane.
use Rattle.std.specs.Prelude.{ℕ, List, [], ◌∷◌, ◌++◌, map, slice_get, codes}
use Rattle.std.specs.Fmt.{decimal}
use Rattle.std.specs.List.{flat_map, zip, enumerate_from}
use Rattle.std.specs.Option.{option_map_or}
use Rattle.model_synthesis.specs.Tables.{ConstantTables}
use Rattle.model_line.specs.Acceptance.{FilmLink}
use Rattle.model_cursor.specs.declared.reply.Reply.TheVariants as replies
use Rattle.model_cursor.specs.Splices.{Splicing}
use Rattle.model_film.specs.FilmLines.{film_line}
use Rattle.model_script.specs.declared.limits.TheConstants.{LINE_FEED}
use Rattle.model_script.specs.declared.command.Command.{Command}
use Rattle.model_script.specs.declared.command.Answer.{Answer}
use Rattle.model_script.specs.declared.command.Answer.TheVariants as answers
use Rattle.model_script.specs.Texts.{reply_line}
use Rattle.model_report.specs.Lanes.{Heard, LaneCursor, all_closed, lane_answers}

-- ---- the text of a lane

-- how many channels an answer's frames have, if it gives frames: those of their link
abbrev pub channels_of : (ℕ → ℕ) → Answer → ℕ
channels_of channels (answers.Given (replies.Frames link frames)) = channels link
channels_of channels _ = 0

-- the line of a command and its answer
abbrev pub answer_line : (ℕ → ℕ) → Command × Answer → List ℕ
answer_line channels (command, answer) = reply_line command answer (channels_of channels answer)

-- the lines of a lane's commands, of which the first finds these cursors
unfoldable pub answer_lines : Heard → List LaneCursor → List Command → List ℕ
answer_lines heard cursors commands =
    flat_map (answer_line heard.channels) (zip commands (lane_answers heard cursors commands))

-- the first line of a lane
abbrev pub lane_line : ℕ → List ℕ
lane_line number = codes "lane " ++ (decimal number ++ LINE_FEED ∷ [])

-- the text of the lane of this number
abbrev pub lane_text : Heard → ℕ × List Command → List ℕ
lane_text heard (number, commands) = lane_line number ++ answer_lines heard all_closed commands

-- ---- the report

-- the texts of all lanes
unfoldable pub lane_texts : Heard → List (List Command) → List (List ℕ)
lane_texts heard lanes = map (lane_text heard) (enumerate_from 0 lanes)

-- how many channels a link of a film has
abbrev pub film_channels : List FilmLink → ℕ → ℕ
film_channels links link =
    option_map_or (λ (l : FilmLink). l.ident.channels) (slice_get links link) 0

-- how long the short blocks of each link of a film are
abbrev pub film_shorts : List FilmLink → List ℕ
film_shorts links = map (λ (l : FilmLink). l.ident.short) links

-- what splices on a film's line rest on besides it
abbrev pub film_splicing : ConstantTables → List FilmLink → Splicing
film_splicing tables links = record { tables = tables; shorts = film_shorts links }

-- what is heard of a film with these constants
abbrev pub heard_of : ConstantTables → List FilmLink → Heard
heard_of tables links = record {
  line = film_line tables links;
  splicing = film_splicing tables links;
  channels = film_channels links;
}

-- the report of a script over a film: what is heard of it answers, without regard to how it is
-- played
unfoldable pub report_of : ConstantTables → List FilmLink → List (List Command) → List (List ℕ)
report_of tables links lanes = lane_texts (heard_of tables links) lanes
