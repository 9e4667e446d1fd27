-- One line more of a script: what is said, and whether it is refused.
use Rattle.std.proofs.Common.{◌≡◌, ℕ, ◌+◌, ◌<◌, ◌≤◌, zero-add, Ok, Err, Bool, cond, ◌⊎◌, inl, inr, List, [], ◌∷◌, ◌++◌, length, map, take, get_or, Option, Some, None, Result, ◌≢◌, subst, refl, sym, ap, ◌∙◌, arith}
use Rattle.std.specs.Prelude.{nat_lt, slice_get}
use Rattle.memory.specs.Answers.{Answers}
use Rattle.std.specs.List.{All, cons_option}
use Rattle.std.specs.Option.{option_map, option_and_then}
use Rattle.std.proofs.lemmas.Bool.{cases_Bool}
use Rattle.std.proofs.lemmas.Bool.Decides.{nat_tests}
use Rattle.std.proofs.lemmas.List.{take_more, take_all}
use Rattle.std.proofs.lemmas.List.Elements.{filter_map-append, All-nil}
use Rattle.std.proofs.lemmas.List.Sums.{sum_by_push}
use Rattle.std.proofs.lemmas.Option.{slice_get-map, slice_get_within, slice_get-get_or}
use Rattle.model_script.specs.declared.limits.TheConstants.{MOST_LANES, MOST_FRAMES}
use Rattle.model_script.specs.declared.command.Command.{Command}
use Rattle.model_script.specs.declared.command.Line.{Line}
use Rattle.model_script.specs.declared.command.Line.TheVariants as lines
use Rattle.model_script.specs.declared.command.Verb.{Verb}
use Rattle.model_script.specs.declared.fault.LineCause.TheVariants as causes
use Rattle.model_script.specs.declared.fault.Which.TheVariants as limits
use Rattle.model_script.specs.declared.fault.ScriptFault.{ScriptFault}
use Rattle.model_script.specs.declared.fault.ScriptFault.TheVariants as faults
use Rattle.model_script.specs.Lines.{when, first_some, words_of, verb_of, line_by, line_of, cause_of, cause_by, value_of}
use Rattle.model_script.specs.Scripts.{IsRight, AreLanes, said, begins_lane, lanes_in, frames_of, frames_in, lanes_of, lanes_unless, refusal_at, first_refusal}
use Rattle.player_script.specs.Steps.{lanes_with, limit_of_said, refusal_by}
use Rattle.player_script.proofs.Firsts.{first_at, none_first}
use Rattle.player_script.proofs.LaneSteps.{length-lanes_of, lanes_of-lane, lanes_of-gives}

-- ---- what is said

said_append : (xs ys : List (List (List ℕ))) → said (xs ++ ys) ≡ said xs ++ said ys
unfolding said
said_append xs ys = filter_map-append line_of xs ys

said_one : (words : List (List ℕ)) (line : Line) → line_of words ≡ Some line → said (words ∷ []) ≡ line ∷ []
unfolding said
said_one words line e = ap (λ (o : Option Line). cons_option o []) e

taken : (all : List (List (List ℕ))) (k : ℕ) (words : List (List ℕ)) → slice_get all k ≡ Some words → take (k + 1) all ≡ take k all ++ words ∷ []
taken all k words e =
    let h : k < length all = slice_get_within all k words e in
    let here : get_or all k [] ≡ words = let there = slice_get-get_or all k [] h in cc in
    take_more all k [] h ∙ ap (λ (w : List (List ℕ)). take k all ++ w ∷ []) here

pub said_more : (all : List (List (List ℕ))) (k : ℕ) (words : List (List ℕ)) (line : Line) → slice_get all k ≡ Some words → line_of words ≡ Some line → said (take (k + 1) all) ≡ said (take k all) ++ line ∷ []
said_more all k words line e l =
    ap said (taken all k words e) ∙ said_append (take k all) (words ∷ [])
    ∙ ap (λ (xs : List Line). said (take k all) ++ xs) (said_one words line l)

pub lanes_more : (xs : List Line) (line : Line) → lanes_of (xs ++ line ∷ []) ≡ lanes_with (lanes_of xs) line
lanes_more xs lines.Lane = lanes_of-lane xs
lanes_more xs (lines.Gives command) = lanes_of-gives command xs

pub frames_more : (xs : List Line) (line : Line) → frames_in (xs ++ line ∷ []) ≡ frames_in xs + frames_of line
frames_more xs line = sum_by_push frames_of xs line

lanes_in-more : (xs : List Line) (line : Line) → lanes_in (xs ++ line ∷ []) ≡ length (lanes_of xs) + lanes_in (line ∷ [])
lanes_in-more xs line =
    sum_by_push (λ x. cond (begins_lane x) 1 0) xs line
    ∙ ap (λ n. n + cond (begins_lane line) 1 0) (sym (length-lanes_of xs))
    ∙ ap (λ n. length (lanes_of xs) + n) (let e : cond (begins_lane line) 1 0 ≡ 0 + cond (begins_lane line) 1 0 = omega arith in e)

-- ---- whether it is refused

nested : {A : Type 0} (a b c : Option A) → first_some (a ∷ b ∷ c ∷ []) ≡ first_some (a ∷ first_some (b ∷ c ∷ []) ∷ [])
nested (Some a) b c = refl
nested None (Some b) c = refl
nested None None (Some c) = refl
nested None None None = refl

-- why a line is refused, by the line, and by the lanes and frames before it and through it
by_parts : ℕ → Option (List (List ℕ)) → ℕ → ℕ → ℕ → Option ScriptFault
by_parts number line before lanes frames = first_some
    (option_map (faults.Line number) (option_and_then (cause_of (nat_lt 0 before)) line)
    ∷ when (nat_lt MOST_LANES lanes) (faults.Limit limits.Lanes number)
    ∷ when (nat_lt MOST_FRAMES frames) (faults.Limit limits.Frames number) ∷ [])

known : (all : List (List (List ℕ))) (k : ℕ) (words : List (List ℕ)) (line : Line) → slice_get all k ≡ Some words → line_of words ≡ Some line → let before = said (take k all) in refusal_at all k ≡ refusal_by (length (lanes_of before)) (frames_in before) words (k + 1)
unfolding by_parts
known all k words line e l =
    let before = said (take k all) in
    let through = said_more all k words line e l in
    let number = k + 1 in
    ap (λ o. by_parts number o (lanes_in before) (lanes_in (said (take (k + 1) all))) (frames_in (said (take (k + 1) all)))) e
    ∙ ap (λ n. by_parts number (Some words) n (lanes_in (said (take (k + 1) all))) (frames_in (said (take (k + 1) all)))) (sym (length-lanes_of before))
    ∙ ap (λ (xs : List Line). by_parts number (Some words) (length (lanes_of before)) (lanes_in xs) (frames_in xs)) through
    ∙ ap (λ n. by_parts number (Some words) (length (lanes_of before)) n (frames_in (before ++ line ∷ []))) (lanes_in-more before line)
    ∙ ap (λ n. by_parts number (Some words) (length (lanes_of before)) (length (lanes_of before) + lanes_in (line ∷ [])) n) (frames_more before line)
    ∙ nested (option_map (faults.Line number) (cause_of (nat_lt 0 (length (lanes_of before))) words))
    (when (nat_lt MOST_LANES (length (lanes_of before) + lanes_in (line ∷ []))) (faults.Limit limits.Lanes number))
    (when (nat_lt MOST_FRAMES (frames_in before + frames_of line)) (faults.Limit limits.Frames number))
    ∙ ap (λ o. first_some (option_map (faults.Line number) (cause_of (nat_lt 0 (length (lanes_of before))) words) ∷ limit_of_said (length (lanes_of before)) (frames_in before) number o ∷ [])) (sym l)

unknown_verb : (begun : Bool) (words : List (List ℕ)) (verb : Option Verb) → option_map (λ v. line_by v (map value_of words)) verb ≡ None → cause_by begun words verb ≡ Some causes.Word
unknown_verb begun words None e = refl
unknown_verb begun words (Some verb) e = cc

unknown : (begun : Bool) (words : List (List ℕ)) → line_of words ≡ None → cause_of begun words ≡ Some causes.Word
unknown begun [] e = refl
unknown begun (word ∷ words) e = unknown_verb begun words (verb_of word) e

-- the first of a list whose front is there
front : {A : Type 0} (a : Option A) (x : A) (xs ys : List (Option A)) → a ≡ Some x → first_some (a ∷ xs) ≡ first_some (a ∷ ys)
front None x xs ys e = cc
front (Some a) x xs ys e = refl

not_known : (all : List (List (List ℕ))) (k : ℕ) (words : List (List ℕ)) → slice_get all k ≡ Some words → line_of words ≡ None → let before = said (take k all) in refusal_at all k ≡ refusal_by (length (lanes_of before)) (frames_in before) words (k + 1)
unfolding by_parts
not_known all k words e l =
    let before = said (take k all) in
    let number = k + 1 in
    ap (λ o. by_parts number o (lanes_in before) (lanes_in (said (take (k + 1) all))) (frames_in (said (take (k + 1) all)))) e
    ∙ ap (λ n. by_parts number (Some words) n (lanes_in (said (take (k + 1) all))) (frames_in (said (take (k + 1) all)))) (sym (length-lanes_of before))
    ∙ front (option_map (faults.Line number) (cause_of (nat_lt 0 (length (lanes_of before))) words)) (faults.Line number causes.Word)
    (when (nat_lt MOST_LANES (lanes_in (said (take (k + 1) all)))) (faults.Limit limits.Lanes number)
    ∷ when (nat_lt MOST_FRAMES (frames_in (said (take (k + 1) all)))) (faults.Limit limits.Frames number) ∷ [])
    (limit_of_said (length (lanes_of before)) (frames_in before) number (line_of words) ∷ [])
    (ap (option_map (faults.Line number)) (unknown (nat_lt 0 (length (lanes_of before))) words l))

line_or_none : (o : Option Line) → (o ≡ None) ⊎ ((line : Line) × (o ≡ Some line))
line_or_none None = inl refl
line_or_none (Some line) = inr (line, refl)

-- a line is refused by what it says, and by the lanes and the frames of the lines before it
pub refusal-step : (all : List (List (List ℕ))) (k : ℕ) (words : List (List ℕ)) → slice_get all k ≡ Some words → let before = said (take k all) in refusal_at all k ≡ refusal_by (length (lanes_of before)) (frames_in before) words (k + 1)
refusal-step all k words e = elim (line_or_none (line_of words)) [
  | inl none ↦ not_known all k words e none
  | inr some ↦ known all k words some.0 e some.1
]

-- the words of the line in turn
pub words_in_turn : (parts : List (List ℕ)) (k : ℕ) (line : List ℕ) → k < length parts → line ≡ get_or parts k line → slice_get (map words_of parts) k ≡ Some (words_of line)
words_in_turn parts k line h e =
    slice_get-map words_of parts k ∙ ap (option_map words_of) (slice_get-get_or parts k line h)
    ∙ ap (λ (l : List ℕ). Some (words_of l)) (sym e)

-- ---- line after line

-- what is known behind so many lines
pub record IsRead (all : List (List (List ℕ))) (count n : ℕ) (ls : List (List Command)) (asked : ℕ) : Type 0 where
  pub number : n ≡ count
  pub lanes : ls ≡ lanes_of (said (take count all))
  pub frames : asked ≡ frames_in (said (take count all))
  pub none : (i : ℕ) → i < count → refusal_at all i ≡ None
  pub are : AreLanes ls
  pub most : asked ≤ MOST_FRAMES

-- before the first line
pub nothing_read : (all : List (List (List ℕ))) (ls : List (List Command)) → ls ≡ [] → IsRead all 0 0 ls 0
unfolding said
nothing_read all ls e = record {
  number = refl;
  lanes = e;
  frames = refl;
  none = λ i h. absurd (omega arith);
  are = rw e (record { few = omega arith; right = All-nil (All IsRight) });
  most = omega arith;
}

same_refusal : (all : List (List (List ℕ))) (k n : ℕ) (ls : List (List Command)) (asked : ℕ) (words : List (List ℕ)) → IsRead all k n ls asked → slice_get all k ≡ Some words → refusal_at all k ≡ refusal_by (length ls) asked words (n + 1)
same_refusal all k n ls asked words r here =
    refusal-step all k words here
    ∙ ap (λ (lanes : List (List Command)). refusal_by (length lanes) (frames_in (said (take k all))) words (k + 1)) (sym r.lanes)
    ∙ ap (λ m. refusal_by (length ls) m words (k + 1)) (sym r.frames)
    ∙ ap (λ m. refusal_by (length ls) asked words (m + 1)) (sym r.number)

-- one line more that is not refused
pub read_on : (all : List (List (List ℕ))) (k n : ℕ) (ls : List (List Command)) (asked : ℕ) (words : List (List ℕ)) (line : Line) (new : List (List Command)) (more : ℕ) → IsRead all k n ls asked → slice_get all k ≡ Some words → refusal_by (length ls) asked words (n + 1) ≡ None → line_of words ≡ Some line → new ≡ lanes_with ls line → more ≡ asked + frames_of line → AreLanes new → more ≤ MOST_FRAMES → IsRead all (k + 1) (n + 1) new more
read_on all k n ls asked words line new more r here passes says lanes frames are most =
    let through = said_more all k words line here says in record {
      number = ap (λ m. m + 1) r.number;
      lanes = lanes ∙ ap (λ (xs : List (List Command)). lanes_with xs line) r.lanes ∙ sym (lanes_more (said (take k all)) line) ∙ ap lanes_of (sym through);
      frames = frames ∙ ap (λ m. m + frames_of line) r.frames ∙ sym (frames_more (said (take k all)) line) ∙ ap frames_in (sym through);
      none = λ i h. elim (cases_Bool (nat_lt i k)) [
        | inl before ↦ r.none i (grind (arith, nat_tests))
        | inr other ↦
            let e : i ≡ k = grind (arith, nat_tests) in
            ap (refusal_at all) e ∙ same_refusal all k n ls asked words r here ∙ passes
      ];
      are = are;
      most = most;
    }

-- a line that is refused
pub refused : (all : List (List (List ℕ))) (k n : ℕ) (ls : List (List Command)) (asked : ℕ) (words : List (List ℕ)) (fault : ScriptFault) → IsRead all k n ls asked → slice_get all k ≡ Some words → refusal_by (length ls) asked words (n + 1) ≡ Some fault → lanes_unless (said all) (first_refusal all) ≡ Err fault
unfolding first_refusal
refused all k n ls asked words fault r here e =
    ap (lanes_unless (said all)) (
    first_at (refusal_at all) 0 (length all) k fault (slice_get_within all k words here)
    (λ i h. ap (refusal_at all) (zero-add i) ∙ r.none i h)
    (ap (refusal_at all) (zero-add k) ∙ same_refusal all k n ls asked words r here ∙ e)
    )

-- all lines
pub read_all : (all : List (List (List ℕ))) (k n : ℕ) (ls : List (List Command)) (asked : ℕ) → IsRead all k n ls asked → k ≡ length all → lanes_unless (said all) (first_refusal all) ≡ Ok ls
unfolding first_refusal
read_all all k n ls asked r e =
    let taken_all : take k all ≡ all = take_all k all (omega arith) in
    ap (lanes_unless (said all)) (none_first (refusal_at all) 0 (length all) (λ i h. ap (refusal_at all) (zero-add i) ∙ r.none i (omega arith)))
    ∙ ap (λ (lanes : List (List Command)). Ok lanes) (sym (r.lanes ∙ ap (λ (xs : List (List (List ℕ))). lanes_of (said xs)) taken_all))

-- a fault that is handed on
pub answers_fault : {X A : Type 0} (view : X → A) {said : Result A ScriptFault} (r : Result X ScriptFault) (fault : ScriptFault) → r ≡ Err fault → (fault ≢ faults.Memory → said ≡ Err fault) → Answers faults.Memory view r said
answers_fault {X} {A} view {said} r fault e h =
    let P : Result X ScriptFault → Type 0 = λ x. Answers faults.Memory view x said in
    subst P (sym e) h
