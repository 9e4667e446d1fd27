-- What a line of a script says, and why it is refused.
use Rattle.std.specs.Prelude.{ℕ, ◌-◌, ◌^◌, Bool, true, false, not, ◌&&◌, ◌==◌, nat_lt, nat_le, if◌then◌else◌, List, [], ◌∷◌, length, map, slice_index, Option, Some, None, codes}
use Rattle.std.specs.List.{find, list_all, zip, slice_split}
use Rattle.std.specs.Option.{option_map}
use Rattle.std.specs.Char.{is_ascii_digit}
use Rattle.std.specs.Str.{bytes_eq, all_ascii_digits}
use Rattle.std.specs.Str.Parse.{digits_value}
use Rattle.model_script.specs.declared.limits.TheConstants.{GREATEST_CURSOR, GREATEST_READ, SPACE}
use Rattle.model_script.specs.declared.command.Verb.{Verb}
use Rattle.model_script.specs.declared.command.Verb.TheVariants as verbs
use Rattle.model_script.specs.declared.command.Command.TheVariants as commands
use Rattle.model_script.specs.declared.command.Line.{Line}
use Rattle.model_script.specs.declared.command.Line.TheVariants as lines
use Rattle.model_script.specs.declared.fault.LineCause.{LineCause}
use Rattle.model_script.specs.declared.fault.LineCause.TheVariants as causes

-- ---- the first of several

-- this, where the test holds
abbrev pub when : {A : Type 0} → Bool → A → Option A
when holds x = if holds then Some x else None

-- the first that is there
abbrev pub first_some : {A : Type 0} → List (Option A) → Option A
first_some [] = None
first_some (None ∷ xs) = first_some xs
first_some (Some x ∷ xs) = Some x

-- ---- words

-- the words of a line: what stands between its spaces
abbrev pub words_of : List ℕ → List (List ℕ)
words_of line = slice_split (λ b. b == SPACE) line

-- how a first word is written
abbrev pub name_of : Verb → List ℕ
name_of verbs.Lane = codes "lane"
name_of verbs.Open = codes "open"
name_of verbs.Read = codes "read"
name_of verbs.Seek = codes "seek"
name_of verbs.Lap = codes "lap"
name_of verbs.Cross = codes "cross"
name_of verbs.Tell = codes "tell"
name_of verbs.Close = codes "close"

abbrev pub all_verbs : List Verb
all_verbs =
    verbs.Lane
    ∷ verbs.Open ∷ verbs.Read ∷ verbs.Seek ∷ verbs.Lap ∷ verbs.Cross ∷ verbs.Tell ∷ verbs.Close ∷ []

-- the first word that is written so
abbrev pub verb_of : List ℕ → Option Verb
verb_of word = find (λ verb. bytes_eq word (name_of verb)) all_verbs

abbrev pub is_lane : Verb → Bool
is_lane verbs.Lane = true
is_lane _ = false

-- ---- numbers

-- plain decimal: digits alone, without a leading zero
abbrev pub is_plain : List ℕ → Bool
is_plain [] = false
is_plain (digit ∷ []) = is_ascii_digit digit
is_plain (digit ∷ next ∷ digits) =
    not (digit == 48) && all_ascii_digits (digit ∷ next ∷ digits)

-- the number that a word's digits write
abbrev pub value_of : List ℕ → ℕ
value_of word = digits_value 10 word

-- a word is a number: plain decimal, and at most 2^64 - 1
abbrev pub is_number : List ℕ → Bool
is_number word = is_plain word && nat_lt (value_of word) (2 ^ 64)

-- from which number to which
pub record Range : Type 0 where
  pub least : ℕ
  pub greatest : ℕ

abbrev pub cursors : Range
cursors = record { least = 0; greatest = GREATEST_CURSOR }

abbrev pub counts : Range
counts = record { least = 1; greatest = GREATEST_READ }

abbrev pub places : Range
places = record { least = 0; greatest = 2 ^ 64 - 1 }

-- the numbers that stand behind a first word
abbrev pub ranges_of : Verb → List Range
ranges_of verbs.Lane = []
ranges_of verbs.Open = cursors ∷ []
ranges_of verbs.Read = cursors ∷ counts ∷ []
ranges_of verbs.Seek = cursors ∷ places ∷ []
ranges_of verbs.Lap = cursors ∷ places ∷ []
ranges_of verbs.Cross = cursors ∷ cursors ∷ []
ranges_of verbs.Tell = cursors ∷ []
ranges_of verbs.Close = cursors ∷ []

abbrev pub is_in : Range × ℕ → Bool
is_in (range, n) = nat_le range.least n && nat_le n range.greatest

-- each number is in its range
abbrev pub are_in : List Range → List ℕ → Bool
are_in ranges numbers = list_all is_in (zip ranges numbers)

-- ---- lines

-- what a line says by its first word and the numbers behind it
abbrev pub line_by : Verb → List ℕ → Line
line_by verbs.Lane numbers = lines.Lane
line_by verbs.Open numbers = lines.Gives (commands.Open (slice_index numbers 0))
line_by verbs.Read numbers =
    lines.Gives (commands.Read (slice_index numbers 0) (slice_index numbers 1))
line_by verbs.Seek numbers =
    lines.Gives (commands.Seek (slice_index numbers 0) (slice_index numbers 1))
line_by verbs.Lap numbers =
    lines.Gives (commands.Lap (slice_index numbers 0) (slice_index numbers 1))
line_by verbs.Cross numbers =
    lines.Gives (commands.Cross (slice_index numbers 0) (slice_index numbers 1))
line_by verbs.Tell numbers = lines.Gives (commands.Tell (slice_index numbers 0))
line_by verbs.Close numbers = lines.Gives (commands.Close (slice_index numbers 0))

-- what the words of a line say, where the first is known
abbrev pub line_of : List (List ℕ) → Option Line
line_of [] = None
line_of (word ∷ words) = option_map (λ verb. line_by verb (map value_of words)) (verb_of word)

-- the causes, in order, why a line is refused whose first word is known, and which has these words
-- behind it
abbrev pub causes_by : Bool → List (List ℕ) → Verb → List (Option LineCause)
causes_by begun words verb =
    when (not begun && not (is_lane verb)) causes.NoLane
    ∷ when (not (length words == length (ranges_of verb))) causes.Count
    ∷ when (not (list_all is_number words)) causes.Number
    ∷ when (not (are_in (ranges_of verb) (map value_of words))) causes.Range ∷ []

abbrev pub cause_by : Bool → List (List ℕ) → Option Verb → Option LineCause
cause_by begun words None = Some causes.Word
cause_by begun words (Some verb) = first_some (causes_by begun words verb)

-- the first cause why a line of these words is refused, if there is one; a lane has begun before
-- it, or not
abbrev pub cause_of : Bool → List (List ℕ) → Option LineCause
cause_of begun [] = Some causes.Word
cause_of begun (word ∷ words) = cause_by begun words (verb_of word)
