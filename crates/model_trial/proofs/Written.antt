-- A line of a script as it is written: its words, and what it says.
use Rattle.std.proofs.Common.{◌≡◌, ℕ, suc, ◌<◌, ◌≤◌, ◌^◌, Bool, true, false, not, ◌&&◌, eqb, List, [], ◌∷◌, ◌++◌, length, map, Some, None, refl, sym, ap, ◌∙◌, arith, append-nil, append_assoc, lit<}
use Rattle.std.specs.Prelude.{codes, nat_le, ◌==◌}
use Rattle.std.specs.List.{All, AllByRecursion, list_all, flat_map}
use Rattle.std.specs.Str.{all_ascii_digits}
use Rattle.std.specs.Str.Parse.{digits_value}
use Rattle.std.specs.Fmt.{decimal}
use Rattle.std.specs.Option.{option_map}
use Rattle.std.proofs.lemmas.Bool.Decides.{nat_tests}
use Rattle.std.proofs.lemmas.Bool.{le-leb}
use Rattle.std.proofs.lemmas.Fmt.{digits_decimal}
use Rattle.std.proofs.lemmas.Str.Parse.{IsNumeralModel, numerals_by_value, tells_all_ascii_digits}
use Rattle.std.proofs.lemmas.List.Splits.{slice_split_none, slice_split_at}
use Rattle.std.proofs.lemmas.List.Elements.{All-from_recursion, All-append, All-nil, All-cons, All-same}
use Rattle.model_script.specs.declared.command.Command.{Command}
use Rattle.model_script.specs.declared.command.Command.TheVariants as commands
use Rattle.model_script.specs.declared.command.Line.{Line}
use Rattle.model_script.specs.declared.command.Line.TheVariants as lines
use Rattle.model_script.specs.declared.command.Verb.{Verb}
use Rattle.model_script.specs.declared.command.Verb.TheVariants as verbs
use Rattle.model_script.specs.declared.fault.LineCause.TheVariants as causes
use Rattle.model_script.specs.Lines.{when, first_some, words_of, name_of, verb_of, is_number, value_of, Range, cursors, counts, places, ranges_of, is_in, are_in, line_by, line_of, causes_by, cause_by, cause_of}
use Rattle.model_script.specs.Scripts.{IsRight}
use Rattle.model_script.specs.Texts.{command_text}
use Rattle.model_script.proofs.Numbers.{is_number-decimal, value_of-decimal}
use Rattle.model_trial.specs.MadeScript.{line_text}

-- ---- bytes that do not stand in words

abbrev Lacks : ℕ → List ℕ → Type 0
Lacks b word = All (λ x. eqb x b ≡ false) word

own : IsNumeralModel (λ ds. all_ascii_digits ds ≡ true) (digits_value 10)
own = numerals_by_value (λ ds. all_ascii_digits ds ≡ true) tells_all_ascii_digits

digits_lack : (b : ℕ) → b < 48 → (word : List ℕ) → all_ascii_digits word ≡ true → AllByRecursion (λ x. eqb x b ≡ false) word
digits_lack b low [] e = tt
digits_lack b low (d ∷ ds) e =
    let parts = tells_all_ascii_digits.parts d ds e in
    let above : 48 ≤ d = parts.0.0 in
    let other : eqb d b ≡ false = grind (arith, nat_tests) in
    (other, digits_lack b low ds parts.1)

decimal_lacks : (b n : ℕ) → b < 48 → n < 2 ^ 64 → Lacks b (decimal n)
decimal_lacks b n low small = All-from_recursion (λ x. eqb x b ≡ false) (decimal n) (digits_lack b low (decimal n) (digits_decimal own n small))

name_lacks_space : (verb : Verb) → Lacks 32 (name_of verb)
name_lacks_space verb = All-from_recursion (λ x. eqb x 32 ≡ false) (name_of verb) (by verb)
  where
    by : (verb : Verb) → AllByRecursion (λ x. eqb x 32 ≡ false) (name_of verb)
    by verbs.Lane = (refl, (refl, (refl, (refl, tt))))
    by verbs.Open = (refl, (refl, (refl, (refl, tt))))
    by verbs.Read = (refl, (refl, (refl, (refl, tt))))
    by verbs.Seek = (refl, (refl, (refl, (refl, tt))))
    by verbs.Lap = (refl, (refl, (refl, tt)))
    by verbs.Cross = (refl, (refl, (refl, (refl, (refl, tt)))))
    by verbs.Tell = (refl, (refl, (refl, (refl, tt))))
    by verbs.Close = (refl, (refl, (refl, (refl, (refl, tt)))))

name_lacks_feed : (verb : Verb) → Lacks 10 (name_of verb)
name_lacks_feed verb = All-from_recursion (λ x. eqb x 10 ≡ false) (name_of verb) (by verb)
  where
    by : (verb : Verb) → AllByRecursion (λ x. eqb x 10 ≡ false) (name_of verb)
    by verbs.Lane = (refl, (refl, (refl, (refl, tt))))
    by verbs.Open = (refl, (refl, (refl, (refl, tt))))
    by verbs.Read = (refl, (refl, (refl, (refl, tt))))
    by verbs.Seek = (refl, (refl, (refl, (refl, tt))))
    by verbs.Lap = (refl, (refl, (refl, tt)))
    by verbs.Cross = (refl, (refl, (refl, (refl, (refl, tt)))))
    by verbs.Tell = (refl, (refl, (refl, (refl, tt))))
    by verbs.Close = (refl, (refl, (refl, (refl, (refl, tt)))))

-- ---- a first word and numbers behind it

abbrev spaced : List ℕ → List ℕ
spaced numbers = flat_map (λ n. 32 ∷ decimal n) numbers

abbrev Small : List ℕ → Type 0
Small numbers = AllByRecursion (λ n. n < 2 ^ 64) numbers

in_words : (word numbers : List ℕ) → Lacks 32 word → Small numbers → words_of (word ++ spaced numbers) ≡ word ∷ map decimal numbers
in_words word [] lacks small =
    ap words_of (append-nil word) ∙ slice_split_none (λ b. eqb b 32) word lacks
in_words word (n ∷ numbers) lacks small =
    slice_split_at (λ b. eqb b 32) word 32 (decimal n ++ spaced numbers) lacks refl
    ∙ ap (λ (ws : List (List ℕ)). word ∷ ws) (in_words (decimal n) numbers (decimal_lacks 32 n (lit< tt) small.0) small.1)

spaced_lacks_feed : (numbers : List ℕ) → Small numbers → Lacks 10 (spaced numbers)
spaced_lacks_feed [] small = All-nil (λ x. eqb x 10 ≡ false)
spaced_lacks_feed (n ∷ numbers) small =
    All-append (λ x. eqb x 10 ≡ false) (32 ∷ decimal n) (spaced numbers)
    (All-cons (λ x. eqb x 10 ≡ false) 32 (decimal n) refl (decimal_lacks 10 n (lit< tt) small.0))
    (spaced_lacks_feed numbers small.1)

values : (numbers : List ℕ) → Small numbers → map value_of (map decimal numbers) ≡ numbers
values [] small = refl
values (n ∷ numbers) small =
    ap (λ v. v ∷ map value_of (map decimal numbers)) (value_of-decimal n small.0)
    ∙ ap (λ (vs : List ℕ). n ∷ vs) (values numbers small.1)

are_numbers : (numbers : List ℕ) → Small numbers → list_all is_number (map decimal numbers) ≡ true
are_numbers [] small = refl
are_numbers (n ∷ numbers) small =
    ap (λ b. b && list_all is_number (map decimal numbers)) (is_number-decimal n small.0) ∙ are_numbers numbers small.1

length-words : (numbers : List ℕ) → length (map decimal numbers) ≡ length numbers
length-words [] = refl
length-words (n ∷ numbers) = ap suc (length-words numbers)

verb_named : (verb : Verb) → verb_of (name_of verb) ≡ Some verb
verb_named verbs.Lane = refl
verb_named verbs.Open = refl
verb_named verbs.Read = refl
verb_named verbs.Seek = refl
verb_named verbs.Lap = refl
verb_named verbs.Cross = refl
verb_named verbs.Tell = refl
verb_named verbs.Close = refl

-- ---- what a command's line says

verb_with : Command → Verb
verb_with (commands.Open c) = verbs.Open
verb_with (commands.Read c n) = verbs.Read
verb_with (commands.Seek c p) = verbs.Seek
verb_with (commands.Lap c p) = verbs.Lap
verb_with (commands.Cross c d) = verbs.Cross
verb_with (commands.Tell c) = verbs.Tell
verb_with (commands.Close c) = verbs.Close

numbers_with : Command → List ℕ
numbers_with (commands.Open c) = c ∷ []
numbers_with (commands.Read c n) = c ∷ n ∷ []
numbers_with (commands.Seek c p) = c ∷ p ∷ []
numbers_with (commands.Lap c p) = c ∷ p ∷ []
numbers_with (commands.Cross c d) = c ∷ d ∷ []
numbers_with (commands.Tell c) = c ∷ []
numbers_with (commands.Close c) = c ∷ []

text_is : (command : Command) → command_text command ≡ name_of (verb_with command) ++ spaced (numbers_with command)
unfolding verb_with numbers_with
text_is (commands.Open c) = refl
text_is (commands.Read c n) = ap (λ (ds : List ℕ). codes "read " ++ (decimal c ++ 32 ∷ ds)) (sym (append-nil (decimal n)))
text_is (commands.Seek c p) = ap (λ (ds : List ℕ). codes "seek " ++ (decimal c ++ 32 ∷ ds)) (sym (append-nil (decimal p)))
text_is (commands.Lap c p) = ap (λ (ds : List ℕ). codes "lap " ++ (decimal c ++ 32 ∷ ds)) (sym (append-nil (decimal p)))
text_is (commands.Cross c d) = ap (λ (ds : List ℕ). codes "cross " ++ ds) (append_assoc (decimal c) (32 ∷ decimal d) [])
text_is (commands.Tell c) = refl
text_is (commands.Close c) = refl

small_cursor : (c : ℕ) → c ≤ 15 → c < 2 ^ 64
small_cursor c h = omega arith

small_numbers : (command : Command) → IsRight command → Small (numbers_with command)
unfolding numbers_with
small_numbers (commands.Open c) r = (small_cursor c r, tt)
small_numbers (commands.Read c n) r = (small_cursor c r.0, (omega (arith, r.2), tt))
small_numbers (commands.Seek c p) r = (small_cursor c r.0, (r.1, tt))
small_numbers (commands.Lap c p) r = (small_cursor c r.0, (r.1, tt))
small_numbers (commands.Cross c d) r = (small_cursor c r.0, (small_cursor d r.1, tt))
small_numbers (commands.Tell c) r = (small_cursor c r, tt)
small_numbers (commands.Close c) r = (small_cursor c r, tt)

within : (r : Range) (n : ℕ) → r.least ≤ n → n ≤ r.greatest → (others : Bool) → others ≡ true → (is_in (r, n) && others) ≡ true
within r n low high others rest =
    ap (λ b. b && nat_le n r.greatest && others) (le-leb r.least n low)
    ∙ ap (λ b. b && others) (le-leb n r.greatest high) ∙ rest

cursor_within : (c : ℕ) → c ≤ 15 → (others : Bool) → others ≡ true → (is_in (cursors, c) && others) ≡ true
cursor_within c h = within cursors c (omega arith) h

in_ranges : (command : Command) → IsRight command → are_in (ranges_of (verb_with command)) (numbers_with command) ≡ true
unfolding verb_with numbers_with
in_ranges (commands.Open c) r = cursor_within c r true refl
in_ranges (commands.Read c n) r = cursor_within c r.0 (is_in (counts, n) && true) (within counts n r.1 r.2 true refl)
in_ranges (commands.Seek c p) r = cursor_within c r.0 (is_in (places, p) && true) (within places p (omega arith) (omega (arith, r.1)) true refl)
in_ranges (commands.Lap c p) r = cursor_within c r.0 (is_in (places, p) && true) (within places p (omega arith) (omega (arith, r.1)) true refl)
in_ranges (commands.Cross c d) r = cursor_within c r.0 (is_in (cursors, d) && true) (cursor_within d r.1 true refl)
in_ranges (commands.Tell c) r = cursor_within c r true refl
in_ranges (commands.Close c) r = cursor_within c r true refl

counted : (command : Command) → (length (numbers_with command) == length (ranges_of (verb_with command))) ≡ true
unfolding verb_with numbers_with
counted (commands.Open c) = refl
counted (commands.Read c n) = refl
counted (commands.Seek c p) = refl
counted (commands.Lap c p) = refl
counted (commands.Cross c d) = refl
counted (commands.Tell c) = refl
counted (commands.Close c) = refl

said_again : (command : Command) → line_by (verb_with command) (numbers_with command) ≡ lines.Gives command
unfolding verb_with numbers_with
said_again (commands.Open c) = refl
said_again (commands.Read c n) = refl
said_again (commands.Seek c p) = refl
said_again (commands.Lap c p) = refl
said_again (commands.Cross c d) = refl
said_again (commands.Tell c) = refl
said_again (commands.Close c) = refl

-- ---- a line

abbrev pub IsRightLine : Line → Type 0
IsRightLine lines.Lane = Unit {0}
IsRightLine (lines.Gives command) = IsRight command

command_words : (command : Command) → IsRight command → words_of (command_text command) ≡ name_of (verb_with command) ∷ map decimal (numbers_with command)
command_words command r =
    ap words_of (text_is command)
    ∙ in_words (name_of (verb_with command)) (numbers_with command) (name_lacks_space (verb_with command)) (small_numbers command r)

-- what a written line says
pub line_said : (line : Line) → IsRightLine line → line_of (words_of (line_text line)) ≡ Some line
line_said lines.Lane r = refl
line_said (lines.Gives command) r =
    let numbers = numbers_with command in
    ap line_of (command_words command r)
    ∙ ap (option_map (λ verb. line_by verb (map value_of (map decimal (numbers_with command))))) (verb_named (verb_with command))
    ∙ ap (λ (ns : List ℕ). Some (line_by (verb_with command) ns)) (values (numbers_with command) (small_numbers command r))
    ∙ ap (λ l. Some l) (said_again command)

no_cause : (verb : Verb) (words : List (List ℕ)) → (length words == length (ranges_of verb)) ≡ true → list_all is_number words ≡ true → are_in (ranges_of verb) (map value_of words) ≡ true → first_some (causes_by true words verb) ≡ None
no_cause verb words count numbers ranges =
    ap (λ b. first_some (when (not b) causes.Count ∷ when (not (list_all is_number words)) causes.Number ∷ when (not (are_in (ranges_of verb) (map value_of words))) causes.Range ∷ [])) count
    ∙ ap (λ b. first_some (when (not b) causes.Number ∷ when (not (are_in (ranges_of verb) (map value_of words))) causes.Range ∷ [])) numbers
    ∙ ap (λ b. first_some (when (not b) causes.Range ∷ [])) ranges

-- no cause stands against it in a lane
pub line_free : (line : Line) → IsRightLine line → cause_of true (words_of (line_text line)) ≡ None
line_free lines.Lane r = refl
line_free (lines.Gives command) r =
    let verb = verb_with command in
    let numbers = numbers_with command in
    let small = small_numbers command r in
    ap (cause_of true) (command_words command r)
    ∙ ap (cause_by true (map decimal (numbers_with command))) (verb_named (verb_with command))
    ∙ no_cause (verb_with command) (map decimal (numbers_with command))
    (ap (λ n. n == length (ranges_of (verb_with command))) (length-words (numbers_with command)) ∙ counted command)
    (are_numbers (numbers_with command) small)
    (ap (are_in (ranges_of (verb_with command))) (values (numbers_with command) small) ∙ in_ranges command r)

pub lane_free : (begun : Bool) → cause_of begun (words_of (line_text lines.Lane)) ≡ None
lane_free true = refl
lane_free false = refl

-- there is no line feed in it
pub line_lacks_feed : (line : Line) → IsRightLine line → All (λ x. eqb x 10 ≡ false) (line_text line)
line_lacks_feed lines.Lane r = name_lacks_feed verbs.Lane
line_lacks_feed (lines.Gives command) r =
    All-same (λ x. eqb x 10 ≡ false) (command_text command) (name_of (verb_with command) ++ spaced (numbers_with command)) (text_is command)
    (All-append (λ x. eqb x 10 ≡ false) (name_of (verb_with command)) (spaced (numbers_with command)) (name_lacks_feed (verb_with command)) (spaced_lacks_feed (numbers_with command) (small_numbers command r)))
