-- The commands of the program, and its exit codes.
use Rattle.std.specs.Prelude.{ℕ, ◌&&◌, ⊤, List, [], ◌∷◌, Option, Some, None, option_map, option_and_then, codes, if◌then◌else◌}
use Rattle.std.specs.Str.{bytes_eq}
use Rattle.model_script.specs.Lines.{is_number, value_of, Range, is_in}
use Rattle.model_script.specs.declared.counts.TheConstants.{MOST_HELPERS, LEAST_SLOTS, MOST_SLOTS, LEAST_SETUPS, MOST_SETUPS}
use Rattle.model_script.specs.declared.counts.Counts.{Counts}
use Rattle.model_player.specs.declared.status.Status.{Status}
use Rattle.model_player.specs.declared.status.Status.TheVariants as statuses

-- ---- numbers

abbrev pub helpers_range : Range
helpers_range = record { least = 0; greatest = MOST_HELPERS }

abbrev pub slots_range : Range
slots_range = record { least = LEAST_SLOTS; greatest = MOST_SLOTS }

abbrev pub setups_range : Range
setups_range = record { least = LEAST_SETUPS; greatest = MOST_SETUPS }

-- the number that a word is, where it is one and lies in a range
unfoldable pub number_in : Range → List ℕ → Option ℕ
number_in range word =
    if is_number word && is_in (range, value_of word) then Some (value_of word) else None

-- the counts of a play by its last three words
unfoldable pub counts_of : List ℕ → List ℕ → List ℕ → Option Counts
counts_of helpers slots setups = option_and_then
    (λ h. option_and_then
    (λ s. option_map (λ u. record { helpers = h; slots = s; setups = u })
    (number_in setups_range setups))
    (number_in slots_range slots))
    (number_in helpers_range helpers)

-- the number that a word is, where it is one
unfoldable pub number_of : List ℕ → Option ℕ
number_of word = if is_number word then Some (value_of word) else None

-- ---- commands

-- a command, with the names of its files, or with the number that its inputs are made of
pub data Command : Type 0 where
  info : List ℕ → Command
  dump : List ℕ → List ℕ → Command
  play : List ℕ → List ℕ → List ℕ → Counts → Command
  trial : ℕ → Counts → Command

-- the trial of a number word and three words of counts
unfoldable pub trial_of : List ℕ → List ℕ → List ℕ → List ℕ → Option Command
trial_of number helpers slots setups =
    option_and_then (λ n. option_map (trial n) (counts_of helpers slots setups)) (number_of number)

-- the command of the words after the program's name, where they are one
abbrev pub command_of : List (List ℕ) → Option Command
command_of (word ∷ film ∷ []) = if bytes_eq word (codes "info") then Some (info film) else None
command_of (word ∷ constants ∷ film ∷ []) =
    if bytes_eq word (codes "dump") then Some (dump constants film) else None
command_of (word ∷ number ∷ helpers ∷ slots ∷ setups ∷ []) =
    if bytes_eq word (codes "trial") then trial_of number helpers slots setups else None
command_of (word ∷ constants ∷ film ∷ script ∷ helpers ∷ slots ∷ setups ∷ []) =
    if bytes_eq word (codes "play")
    then option_map (play constants film script) (counts_of helpers slots setups)
    else None
command_of _ = None

-- A play and a trial play a script, and so take part in threads. No other command does.
abbrev pub Plays : Option Command → Type 0
Plays (Some (play constants film script counts)) = ⊤
Plays (Some (trial number counts)) = ⊤
Plays _ = ⊥

-- the exit code of a status
abbrev pub exit_code : Status → ℕ
exit_code statuses.Ok = 0
exit_code statuses.Usage = 2
exit_code statuses.Input = 3
exit_code statuses.Constants = 4
exit_code statuses.Film = 5
exit_code statuses.Script = 6
exit_code statuses.Output = 7
exit_code statuses.Memory = 8
exit_code statuses.TooLong = 9
