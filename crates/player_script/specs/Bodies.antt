-- What the line of an answer has behind the command's first word and cursor.
use Rattle.std.specs.Prelude.{ℕ, List, ◌++◌, codes}
use Rattle.std.specs.Fmt.{decimal}
use Rattle.model_script.specs.declared.command.Command.{Command}
use Rattle.model_script.specs.declared.command.Answer.{Answer}
use Rattle.model_script.specs.declared.command.Answer.TheVariants as answers
use Rattle.model_script.specs.Texts.{tail_text, given_text}

abbrev pub body_text : Command → Answer → ℕ → List ℕ
body_text command answers.Ok channels = codes " ok"
body_text command answers.AlreadyOpen channels = codes " already open"
body_text command answers.NoCursor channels = tail_text command ++ codes " no cursor"
body_text command (answers.Told place) channels = codes " " ++ decimal place
body_text command (answers.Given reply) channels = given_text channels reply
