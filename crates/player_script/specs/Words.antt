-- The words of a line behind its first, and the numbers that they are.
use Rattle.std.specs.Prelude.{ℕ, not, ◌==◌, List, [], ◌∷◌, length, map, Option, Some, None, Result, Ok, Err}
use Rattle.std.specs.List.{list_all}
use Rattle.std.specs.Borrow.{Bor}
use Rattle.model_script.specs.declared.command.Verb.{Verb}
use Rattle.model_script.specs.declared.command.Line.{Line}
use Rattle.model_script.specs.declared.fault.LineCause.{LineCause}
use Rattle.model_script.specs.declared.fault.LineCause.TheVariants as causes
use Rattle.model_script.specs.Lines.{when, first_some, words_of, is_number, value_of, ranges_of, are_in, line_by}

-- the words of what is behind a space, if one is there
abbrev pub words_behind : Option (Bor (List ℕ)) → List (List ℕ)
words_behind None = []
words_behind (Some line) = words_of line.now

abbrev pub values_unless : List (List ℕ) → Option LineCause → Result (List ℕ) LineCause
values_unless words None = Ok (map value_of words)
values_unless words (Some cause) = Err cause

-- so many numbers, or the first cause why the words are none
abbrev pub numbers_of : ℕ → List (List ℕ) → Result (List ℕ) LineCause
numbers_of count words = values_unless words
    (first_some (when (not (length words == count)) causes.Count
    ∷ when (not (list_all is_number words)) causes.Number ∷ []))

abbrev pub line_unless : Verb → List ℕ → Option LineCause → Result Line LineCause
line_unless verb numbers None = Ok (line_by verb numbers)
line_unless verb numbers (Some cause) = Err cause

abbrev pub line_with : Verb → Result (List ℕ) LineCause → Result Line LineCause
line_with verb (Err cause) = Err cause
line_with verb (Ok numbers) =
    line_unless verb numbers (when (not (are_in (ranges_of verb) numbers)) causes.Range)

-- what a line of this verb says with these words behind it, or the first cause why it is refused
abbrev pub said_by : Verb → List (List ℕ) → Result Line LineCause
said_by verb words = line_with verb (numbers_of (length (ranges_of verb)) words)
