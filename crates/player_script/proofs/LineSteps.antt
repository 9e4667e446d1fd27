-- What a line says, or why it is refused, from what is read of it one thing after the other.
use Rattle.std.proofs.Common.{◌≡◌, ℕ, Bool, true, false, not, ◌&&◌, List, [], ◌∷◌, length, map, eqb, Some, None, Result, Ok, Err, refl, sym, subst, ap, ◌∙◌}
use Rattle.std.specs.Prelude.{MatchResult}
use Rattle.std.specs.Option.{option_map}
use Rattle.std.specs.List.{list_all}
use Rattle.model_script.specs.declared.command.Line.{Line}
use Rattle.model_script.specs.declared.command.Verb.{Verb}
use Rattle.model_script.specs.declared.fault.LineCause.{LineCause}
use Rattle.model_script.specs.declared.fault.LineCause.TheVariants as causes
use Rattle.model_script.specs.Lines.{when, first_some, verb_of, is_lane, is_number, value_of, ranges_of, are_in, line_by, line_of, causes_by, cause_by, cause_of}
use Rattle.player_script.specs.Words.{values_unless, line_unless, line_with, said_by}

-- where the numbers are right, their ranges decide
by_ranges : (verb : Verb) (numbers : List ℕ) (r : Bool) → MatchResult (line_unless verb numbers (when r causes.Range)) (λ line. (first_some (when r causes.Range ∷ []) ≡ None) × (line ≡ line_by verb numbers)) (λ cause. first_some (when r causes.Range ∷ []) ≡ Some cause)
by_ranges verb numbers true = refl
by_ranges verb numbers false = (refl, refl)

by_tests : (verb : Verb) (words : List (List ℕ)) (a b : Bool) → let numbers = map value_of words in let last = when (not (are_in (ranges_of verb) numbers)) causes.Range in MatchResult (line_with verb (values_unless words (first_some (when a causes.Count ∷ when b causes.Number ∷ [])))) (λ line. (first_some (when a causes.Count ∷ when b causes.Number ∷ last ∷ []) ≡ None) × (line ≡ line_by verb numbers)) (λ cause. first_some (when a causes.Count ∷ when b causes.Number ∷ last ∷ []) ≡ Some cause)
by_tests verb words true b = refl
by_tests verb words false true = refl
by_tests verb words false false = by_ranges verb (map value_of words) (not (are_in (ranges_of verb) (map value_of words)))

-- what is said by a line of a lane that has begun is what no cause stands against
pub said-causes : (verb : Verb) (words : List (List ℕ)) → MatchResult (said_by verb words) (λ line. (first_some (causes_by true words verb) ≡ None) × (line ≡ line_by verb (map value_of words))) (λ cause. first_some (causes_by true words verb) ≡ Some cause)
said-causes verb words = by_tests verb words (not (eqb (length words) (length (ranges_of verb)))) (not (list_all is_number words))

-- a lane begins anywhere
pub begun_before : (begun : Bool) (words : List (List ℕ)) (verb : Verb) → (not begun && not (is_lane verb)) ≡ false → cause_by begun words (Some verb) ≡ first_some (causes_by true words verb)
begun_before begun words verb e =
    ap (λ b. first_some (when b causes.NoLane ∷ when (not (eqb (length words) (length (ranges_of verb)))) causes.Count ∷ when (not (list_all is_number words)) causes.Number ∷ when (not (are_in (ranges_of verb) (map value_of words))) causes.Range ∷ [])) e

-- ---- a line, by its first word and what is said by the others

line_from : (begun : Bool) (words : List (List ℕ)) (word : List ℕ) (behind : List (List ℕ)) (verb : Verb) (r : Result Line LineCause) → words ≡ word ∷ behind → verb_of word ≡ Some verb → (not begun && not (is_lane verb)) ≡ false → MatchResult r (λ line. (first_some (causes_by true behind verb) ≡ None) × (line ≡ line_by verb (map value_of behind))) (λ cause. first_some (causes_by true behind verb) ≡ Some cause) → MatchResult r (λ line. (cause_of begun words ≡ None) × (line_of words ≡ Some line)) (λ cause. cause_of begun words ≡ Some cause)
line_from begun words word behind verb (Ok line) e v b h = (
  ap (cause_of begun) e ∙ ap (cause_by begun behind) v ∙ begun_before begun behind verb b ∙ h.0,
  ap line_of e ∙ ap (option_map (λ x. line_by x (map value_of behind))) v ∙ ap (λ x. Some x) (sym h.1),
)
line_from begun words word behind verb (Err cause) e v b h =
    ap (cause_of begun) e ∙ ap (cause_by begun behind) v ∙ begun_before begun behind verb b ∙ h

-- a line of a known verb, in a lane or at the beginning of one
pub line_is : (begun : Bool) (words : List (List ℕ)) (word : List ℕ) (behind : List (List ℕ)) (verb : Verb) (r : Result Line LineCause) → words ≡ word ∷ behind → verb_of word ≡ Some verb → (not begun && not (is_lane verb)) ≡ false → r ≡ said_by verb behind → MatchResult r (λ line. (cause_of begun words ≡ None) × (line_of words ≡ Some line)) (λ cause. cause_of begun words ≡ Some cause)
line_is begun words word behind verb r e v b h =
    let P : Result Line LineCause → Type 0 = λ x. MatchResult x (λ line. (first_some (causes_by true behind verb) ≡ None) × (line ≡ line_by verb (map value_of behind))) (λ cause. first_some (causes_by true behind verb) ≡ Some cause) in
    line_from begun words word behind verb r e v b (subst P (sym h) (said-causes verb behind))
