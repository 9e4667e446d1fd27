-- What is written of a script that is refused, and of the answers to commands.
use Rattle.std.specs.Prelude.{ℕ, List, [], ◌∷◌, ◌++◌, length, codes}
use Rattle.std.specs.Fmt.{decimal}
use Rattle.std.specs.List.{flat_map}
use Rattle.hex.specs.Hex.{encode_lower}
use Rattle.model_line.specs.declared.row.GapKind.{GapKind}
use Rattle.model_line.specs.declared.row.GapKind.TheVariants as kinds
use Rattle.model_cursor.specs.declared.reply.Reply.{Reply}
use Rattle.model_cursor.specs.declared.reply.Reply.TheVariants as replies
use Rattle.model_line.specs.Blocks.{Frame}
use Rattle.model_line.specs.FrameBytes.{frame_bytes}
use Rattle.model_script.specs.declared.limits.TheConstants.{LINE_FEED}
use Rattle.model_script.specs.declared.command.Verb.{Verb}
use Rattle.model_script.specs.declared.command.Verb.TheVariants as verbs
use Rattle.model_script.specs.declared.command.Command.{Command}
use Rattle.model_script.specs.declared.command.Command.TheVariants as commands
use Rattle.model_script.specs.declared.command.Answer.{Answer}
use Rattle.model_script.specs.declared.command.Answer.TheVariants as answers
use Rattle.model_script.specs.declared.fault.LineCause.{LineCause}
use Rattle.model_script.specs.declared.fault.LineCause.TheVariants as causes
use Rattle.model_script.specs.declared.fault.Which.{Which}
use Rattle.model_script.specs.declared.fault.Which.TheVariants as limits
use Rattle.model_script.specs.declared.fault.ScriptFault.{ScriptFault}
use Rattle.model_script.specs.declared.fault.ScriptFault.TheVariants as faults
use Rattle.model_script.specs.Lines.{name_of}

-- ---- refusals

abbrev pub cause_word : LineCause → List ℕ
cause_word causes.Word = codes "word"
cause_word causes.NoLane = codes "no-lane"
cause_word causes.Count = codes "count"
cause_word causes.Number = codes "number"
cause_word causes.Range = codes "range"

abbrev pub limit_word : Which → List ℕ
limit_word limits.Lanes = codes "lanes"
limit_word limits.Frames = codes "frames"
limit_word limits.Turns = codes "turns"

-- what is said of a script that is refused; want of memory is no cause
abbrev pub fault_text : ScriptFault → List ℕ
fault_text (faults.Line number cause) =
    codes "script line " ++ (decimal number ++ (codes " " ++ cause_word cause))
fault_text (faults.Limit which number) =
    codes "script line " ++ (decimal number ++ (codes " " ++ limit_word which))
fault_text faults.Memory = codes "memory"

-- ---- commands

-- a first word and a number
abbrev pub numbered : Verb → ℕ → List ℕ
numbered verb n = name_of verb ++ (codes " " ++ decimal n)

-- a command's first word and its cursor, or both of its cursors
abbrev pub head_text : Command → List ℕ
head_text (commands.Open c) = numbered verbs.Open c
head_text (commands.Read c n) = numbered verbs.Read c
head_text (commands.Seek c p) = numbered verbs.Seek c
head_text (commands.Lap c p) = numbered verbs.Lap c
head_text (commands.Cross c d) = numbered verbs.Cross c ++ (codes " " ++ decimal d)
head_text (commands.Tell c) = numbered verbs.Tell c
head_text (commands.Close c) = numbered verbs.Close c

-- what a command's line has behind its cursors
abbrev pub tail_text : Command → List ℕ
tail_text (commands.Read c n) = codes " " ++ decimal n
tail_text (commands.Seek c p) = codes " " ++ decimal p
tail_text (commands.Lap c p) = codes " " ++ decimal p
tail_text _ = []

-- a command's own line, without its end
abbrev pub command_text : Command → List ℕ
command_text command = head_text command ++ tail_text command

-- ---- answers

abbrev pub gap_word : GapKind → List ℕ
gap_word kinds.Lost = codes "lost"
gap_word kinds.Bad = codes "bad"

-- Frames of a link with so many channels: their number, and their samples, frame after frame and
-- channel after channel, each as two bytes, the lower first, in lower-case hexadecimal.
abbrev pub frames_text : ℕ → ℕ → List Frame → List ℕ
frames_text link channels frames = codes " frames "
    ++ (decimal link
    ++ (codes " "
    ++ (decimal channels
    ++ (codes " "
    ++ (decimal (length frames)
    ++ (codes " " ++ encode_lower (flat_map frame_bytes frames)))))))

-- what a reply's line has behind the cursor, where the link of its frames has so many channels
abbrev pub given_text : ℕ → Reply → List ℕ
given_text channels (replies.Frames link frames) = frames_text link channels frames
given_text channels (replies.Gap kind) = codes " gap " ++ gap_word kind
given_text channels replies.End = codes " end"
given_text channels (replies.At place) = codes " at " ++ decimal place
given_text channels (replies.Invalid total) = codes " invalid total " ++ decimal total

-- the line of an answer to a command, without its end
abbrev pub answer_text : Command → Answer → ℕ → List ℕ
answer_text command answers.Ok channels = head_text command ++ codes " ok"
answer_text command answers.AlreadyOpen channels = head_text command ++ codes " already open"
answer_text command answers.NoCursor channels = command_text command ++ codes " no cursor"
answer_text command (answers.Told place) channels =
    head_text command ++ (codes " " ++ decimal place)
answer_text command (answers.Given reply) channels =
    head_text command ++ given_text channels reply

-- the line of an answer to a command
abbrev pub reply_line : Command → Answer → ℕ → List ℕ
reply_line command answer channels = answer_text command answer channels ++ LINE_FEED ∷ []
