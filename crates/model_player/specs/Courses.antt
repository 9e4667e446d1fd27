-- What a command does, by what its files hold.
use Rattle.std.specs.Prelude.{ℕ, List, Option, Some, None, Result, Ok, Err}
use Rattle.std.specs.List.{concat}
use Rattle.model_synthesis.specs.declared.constants.ConstantsFault.{ConstantsFault}
use Rattle.model_synthesis.specs.Tables.{ConstantTables}
use Rattle.model_synthesis.specs.ConstantsFile.{constants_of}
use Rattle.model_line.specs.declared.film.FilmFault.{FilmFault}
use Rattle.model_line.specs.Acceptance.{FilmLink, film_of}
use Rattle.model_film.specs.Dumps.{dump_of}
use Rattle.model_script.specs.declared.command.Command as script_commands
use Rattle.model_script.specs.declared.fault.ScriptFault.{ScriptFault}
use Rattle.model_script.specs.Scripts.{script_of}
use Rattle.model_report.specs.Reports.{report_of}
use Rattle.model_trial.specs.MadeConstants.{made_tables}
use Rattle.model_trial.specs.MadeScript.{made_lanes}
use Rattle.model_trial.specs.FilmRead.{links_read}
use Rattle.model_player.specs.declared.limits.TheConstants.{CONSTANTS_LIMIT, FILM_LIMIT, SCRIPT_LIMIT}
use Rattle.model_player.specs.declared.status.Status.{Status}
use Rattle.model_player.specs.declared.status.Status.TheVariants as statuses
use Rattle.model_player.specs.Commands.{Command, info, dump, play, trial}
use Rattle.model_player.specs.Texts.{usage_line, constants_fault_line, fault_line, script_fault_line, info_text, trial_text}

-- how an output is written: by one put, or by several, one part after the other
pub data Puts : Type 0 where
  at_once : Puts
  in_parts : Puts

-- what is due in the end: an output, or the line of a refusal, which goes with a status
pub data Duty : Type 0 where
  writes : Puts → List ℕ → Duty
  refuses : Status → List ℕ → Duty

-- The course of a command: it comes to its duty; or it reads the file of a name, within a limit,
-- and goes on by the bytes of that file.
pub data Course : Type 0 where
  comes_to : Duty → Course
  reads : List ℕ → ℕ → (List ℕ → Course) → Course

-- a judgement: what is accepted leads on, and a fault leads to its refusal
abbrev pub judged : {A E : Type 0} → Result A E → (E → Duty) → (A → Course) → Course
judged (Ok value) refusal next = next value
judged (Err fault) refusal next = comes_to (refusal fault)

-- ---- the files of commands: each is read, and then judged

abbrev pub constants_refusal : ConstantsFault → Duty
constants_refusal fault = refuses statuses.Constants (constants_fault_line fault)

abbrev pub reads_constants : List ℕ → (ConstantTables → Course) → Course
reads_constants name next =
    reads name CONSTANTS_LIMIT (λ bytes. judged (constants_of bytes) constants_refusal next)

abbrev pub film_refusal : FilmFault → Duty
film_refusal fault = refuses statuses.Film (fault_line fault)

abbrev pub reads_film : List ℕ → (List FilmLink → Course) → Course
reads_film name next = reads name FILM_LIMIT (λ bytes. judged (film_of bytes) film_refusal next)

abbrev pub script_refusal : ScriptFault → Duty
script_refusal fault = refuses statuses.Script (script_fault_line fault)

abbrev pub reads_script : List ℕ → (List (List script_commands.Command) → Course) → Course
reads_script name next =
    reads name SCRIPT_LIMIT (λ bytes. judged (script_of bytes) script_refusal next)

-- ---- commands

-- the report of the made script of a number over its made film, by the made constants
unfoldable pub made_report : ℕ → List ℕ
made_report number = concat (report_of made_tables (links_read number) (made_lanes number))

-- of words that are no command, and of each command; a trial reads no file
abbrev pub course_of : Option Command → Course
course_of None = comes_to (refuses statuses.Usage usage_line)
course_of (Some (info film)) =
    reads_film film (λ links. comes_to (writes at_once (info_text links)))
course_of (Some (dump constants film)) = reads_constants constants (λ tables.
    reads_film film (λ links. comes_to (writes in_parts (dump_of tables links))))
course_of (Some (play constants film script counts)) = reads_constants constants (λ tables.
    reads_film film (λ links. reads_script script (λ lanes.
    comes_to (writes in_parts (concat (report_of tables links lanes))))))
course_of (Some (trial number counts)) =
    comes_to (writes at_once (trial_text (links_read number) (made_report number)))
