-- The lines of a script that is written.
use Rattle.std.proofs.Common.{◌≡◌, ℕ, zero, suc, ◌+◌, ◌-◌, ◌<◌, ◌≤◌, true, false, eqb, List, [], ◌∷◌, ◌++◌, length, take, drop, map, Option, None, Ok, refl, sym, ap, ◌∙◌, arith, append-nil, append_assoc, length-append}
use Rattle.std.specs.Prelude.{nat_eq, nat_lt, slice_get, if◌then◌else◌}
use Rattle.std.specs.List.{All, AllByRecursion, range_with_len, slice_split, flat_map, cons_option, ends_with}
use Rattle.std.specs.Option.{option_map, option_and_then}
use lib.Pointwise.{pointwise}
use Rattle.std.proofs.lemmas.Bool.{le-ltb, lt-ltb}
use Rattle.std.proofs.lemmas.List.{take_at, drop_at, take-map}
use Rattle.std.proofs.lemmas.List.Splits.{slice_split_none, slice_split_at}
use Rattle.std.proofs.lemmas.List.Sums.{sum_by-take-le, sum_by-cons, sum_by-append}
use Rattle.std.proofs.lemmas.List.Elements.{recursion_from_All}
use Rattle.model_script.specs.declared.limits.TheConstants.{MOST_LANES, MOST_FRAMES}
use Rattle.model_script.specs.declared.command.Command.{Command}
use Rattle.model_script.specs.declared.command.Line.{Line}
use Rattle.model_script.specs.declared.command.Line.TheVariants as lines
use Rattle.model_script.specs.declared.fault.LineCause.{LineCause}
use Rattle.model_script.specs.declared.fault.Which.TheVariants as limits
use Rattle.model_script.specs.declared.fault.ScriptFault.TheVariants as faults
use Rattle.model_script.specs.Lines.{when, first_some, words_of, cause_of}
use Rattle.model_script.specs.Scripts.{without_last_feed, lines_of, worded_lines, said, begins_lane, lanes_in, frames_of, frames_in, refusal_at, first_refusal, next_commands, lanes_of, lanes_unless, IsRight, script_of}
use Rattle.model_trial.specs.MadeScript.{line_text, ended_line, lane_lines, script_lines, ScriptsReadBack}
use Rattle.model_trial.proofs.Written.{IsRightLine, line_said, line_free, lane_free, line_lacks_feed}

abbrev RightLines : List Line → Type 0
RightLines = AllByRecursion IsRightLine

-- ---- bytes as lines

-- lines that are there, as bytes in front of the last line feed
record InFront (lines : List Line) : Type 0 where
  front : List ℕ
  whole : flat_map ended_line lines ≡ front ++ 10 ∷ []
  parts : slice_split (λ b. eqb b 10) front ≡ map line_text lines

in_front : (line : Line) (others : List Line) → RightLines (line ∷ others) → InFront (line ∷ others)
in_front line [] right = record {
  front = line_text line;
  whole = append-nil (ended_line line);
  parts = slice_split_none (λ b. eqb b 10) (line_text line) (line_lacks_feed line right.0);
}
in_front line (next ∷ others) right =
    let rest = in_front next others right.1 in
    record {
      front = line_text line ++ 10 ∷ rest.front;
      whole =
          ap (λ (bs : List ℕ). ended_line line ++ bs) rest.whole
          ∙ append_assoc (line_text line) (10 ∷ []) (rest.front ++ 10 ∷ [])
          ∙ sym (append_assoc (line_text line) (10 ∷ rest.front) (10 ∷ []));
      parts =
          slice_split_at (λ b. eqb b 10) (line_text line) 10 rest.front (line_lacks_feed line right.0) refl
          ∙ ap (λ (ps : List (List ℕ)). line_text line ∷ ps) rest.parts;
    }

-- a line feed at the end is left out
without_feed : (front : List ℕ) → without_last_feed (front ++ 10 ∷ []) ≡ front
without_feed front =
    let bytes = front ++ 10 ∷ [] in
    let size : length (front ++ 10 ∷ []) - 1 ≡ length front = omega (arith, length-append front (10 ∷ [])) in
    let last : drop (length (front ++ 10 ∷ []) - 1) (front ++ 10 ∷ []) ≡ 10 ∷ [] = drop_at front (10 ∷ []) (length (front ++ 10 ∷ []) - 1) (sym size) in
    let ends : ends_with nat_eq (front ++ 10 ∷ []) (10 ∷ []) ≡ true = ap (λ (xs : List ℕ). pointwise nat_eq (10 ∷ []) xs) last in
    ap (λ b. if b then take (length (front ++ 10 ∷ []) - 1) (front ++ 10 ∷ []) else (front ++ 10 ∷ [])) ends
    ∙ take_at front (10 ∷ []) (length (front ++ 10 ∷ []) - 1) (sym size)

lines_by : (bytes : List ℕ) → 0 < length bytes → lines_of bytes ≡ slice_split (λ b. eqb b 10) (without_last_feed bytes)
lines_by [] some = absurd (omega arith)
lines_by (b ∷ bytes) some = refl

lines_written : (lines : List Line) → RightLines lines → lines_of (flat_map ended_line lines) ≡ map line_text lines
lines_written [] right = refl
lines_written (line ∷ others) right =
    let parted = in_front line others right in
    let some : 0 < length (parted.front ++ 10 ∷ []) = omega (arith, length-append parted.front (10 ∷ [])) in
    ap lines_of parted.whole ∙ lines_by (parted.front ++ 10 ∷ []) some
    ∙ ap (slice_split (λ b. eqb b 10)) (without_feed parted.front) ∙ parted.parts

-- ---- what the lines say

abbrev words_in : List Line → List (List (List ℕ))
words_in lines = map words_of (map line_text lines)

said_written : (lines : List Line) → RightLines lines → said (words_in lines) ≡ lines
unfolding said
said_written [] right = refl
said_written (line ∷ others) right =
    ap (λ o. cons_option o (said (words_in others))) (line_said line right.0)
    ∙ ap (λ (ls : List Line). line ∷ ls) (said_written others right.1)

right_front : (n : ℕ) (lines : List Line) → RightLines lines → RightLines (take n lines)
right_front zero lines right = tt
right_front (suc n) [] right = tt
right_front (suc n) (_ ∷ others) right = (right.0, right_front n others right.1)

front_written : (n : ℕ) (lines : List Line) → RightLines lines → said (take n (words_in lines)) ≡ take n lines
front_written n lines right =
    ap said (take-map words_of n (map line_text lines) ∙ ap (map words_of) (take-map line_text n lines))
    ∙ said_written (take n lines) (right_front n lines right)

-- ---- no line is refused

all_none : {A : Type 0} (f : ℕ → Option A) (xs : List ℕ) → ((x : ℕ) → f x ≡ None) → first_some (map f xs) ≡ None
all_none f [] none = refl
all_none f (x ∷ xs) none = ap (λ o. first_some (o ∷ map f xs)) (none x) ∙ all_none f xs none

-- where a lane has begun, no line has a cause
free_at : (lines : List Line) → RightLines lines → (k : ℕ) → option_and_then (cause_of true) (slice_get (words_in lines) k) ≡ None
free_at [] right k = refl
free_at (line ∷ others) right zero = line_free line right.0
free_at (_ ∷ others) right (suc k) = free_at others right.1 k

module _ (others : List Line) (right : RightLines others) where
  begun_at : (k : ℕ) → nat_lt 0 (lanes_in (said (take (suc k) (words_in (lines.Lane ∷ others))))) ≡ true
  begun_at k =
      let counted = sum_by-cons (λ x. if begins_lane x then 1 else 0) lines.Lane (take k others) in
      ap (λ (ls : List Line). nat_lt 0 (lanes_in ls)) (front_written (suc k) (lines.Lane ∷ others) (tt, right))
      ∙ lt-ltb 0 (lanes_in (lines.Lane ∷ take k others)) (omega (arith, counted))

  uncaused : (k : ℕ) → option_and_then (cause_of (nat_lt 0 (lanes_in (said (take k (words_in (lines.Lane ∷ others))))))) (slice_get (words_in (lines.Lane ∷ others)) k) ≡ None
  uncaused zero = lane_free (nat_lt 0 (lanes_in (said (take 0 (words_in (lines.Lane ∷ others))))))
  uncaused (suc k) =
      ap (λ b. option_and_then (cause_of b) (slice_get (words_in (lines.Lane ∷ others)) (suc k))) (begun_at k)
      ∙ free_at others right k

  module _ (few : lanes_in (lines.Lane ∷ others) ≤ MOST_LANES) (short : frames_in (lines.Lane ∷ others) ≤ MOST_FRAMES) where
    few_lanes : (n : ℕ) → nat_lt MOST_LANES (lanes_in (said (take n (words_in (lines.Lane ∷ others))))) ≡ false
    few_lanes n =
        let part : lanes_in (take n (lines.Lane ∷ others)) ≤ lanes_in (lines.Lane ∷ others) = sum_by-take-le (λ x. if begins_lane x then 1 else 0) (lines.Lane ∷ others) n in
        let most : lanes_in (lines.Lane ∷ others) ≤ 16 = few in
        ap (λ (ls : List Line). nat_lt MOST_LANES (lanes_in ls)) (front_written n (lines.Lane ∷ others) (tt, right))
        ∙ le-ltb MOST_LANES (lanes_in (take n (lines.Lane ∷ others))) (omega (arith, part, most))

    few_frames : (n : ℕ) → nat_lt MOST_FRAMES (frames_in (said (take n (words_in (lines.Lane ∷ others))))) ≡ false
    few_frames n =
        let part : frames_in (take n (lines.Lane ∷ others)) ≤ frames_in (lines.Lane ∷ others) = sum_by-take-le frames_of (lines.Lane ∷ others) n in
        let most : frames_in (lines.Lane ∷ others) ≤ 4194304 = short in
        ap (λ (ls : List Line). nat_lt MOST_FRAMES (frames_in ls)) (front_written n (lines.Lane ∷ others) (tt, right))
        ∙ le-ltb MOST_FRAMES (frames_in (take n (lines.Lane ∷ others))) (omega (arith, part, most))

    unrefused : (k : ℕ) → refusal_at (words_in (lines.Lane ∷ others)) k ≡ None
    unrefused k =
        let words = words_in (lines.Lane ∷ others) in
        let through = said (take (k + 1) (words_in (lines.Lane ∷ others))) in
        ap (λ (o : Option LineCause). first_some (option_map (faults.Line (k + 1)) o ∷ when (nat_lt MOST_LANES (lanes_in through)) (faults.Limit limits.Lanes (k + 1)) ∷ when (nat_lt MOST_FRAMES (frames_in through)) (faults.Limit limits.Frames (k + 1)) ∷ [])) (uncaused k)
        ∙ ap (λ b. first_some (when b (faults.Limit limits.Lanes (k + 1)) ∷ when (nat_lt MOST_FRAMES (frames_in through)) (faults.Limit limits.Frames (k + 1)) ∷ [])) (few_lanes (k + 1))
        ∙ ap (λ b. first_some (when b (faults.Limit limits.Frames (k + 1)) ∷ [])) (few_frames (k + 1))

    pub none_refused : first_refusal (words_in (lines.Lane ∷ others)) ≡ None
    unfolding first_refusal
    none_refused = all_none (refusal_at (words_in (lines.Lane ∷ others))) (range_with_len 0 (length (words_in (lines.Lane ∷ others)))) unrefused

-- ---- the lanes of the lines

abbrev pub gives : List Command → List Line
gives lane = map (λ command. lines.Gives command) lane

next_begins : (lanes : List (List Command)) → next_commands (script_lines lanes) ≡ []
next_begins [] = refl
next_begins (lane ∷ lanes) = refl

next_are : (lane : List Command) (rest : List Line) → next_commands rest ≡ [] → next_commands (gives lane ++ rest) ≡ lane
next_are [] rest h = h
next_are (command ∷ lane) rest h = ap (λ (cs : List Command). command ∷ cs) (next_are lane rest h)

passed_over : (lane : List Command) (rest : List Line) → lanes_of (gives lane ++ rest) ≡ lanes_of rest
passed_over [] rest = refl
passed_over (_ ∷ lane) rest = passed_over lane rest

lanes_again : (lanes : List (List Command)) → lanes_of (script_lines lanes) ≡ lanes
lanes_again [] = refl
lanes_again (lane ∷ lanes) =
    ap (λ (cs : List Command). cs ∷ lanes_of (gives lane ++ script_lines lanes)) (next_are lane (script_lines lanes) (next_begins lanes))
    ∙ ap (λ (ls : List (List Command)). lane ∷ ls) (passed_over lane (script_lines lanes) ∙ lanes_again lanes)

no_lane : (lane : List Command) → lanes_in (gives lane) ≡ 0
no_lane [] = refl
no_lane (command ∷ lane) =
    sum_by-cons (λ x. if begins_lane x then 1 else 0) (lines.Gives command) (gives lane) ∙ omega (arith, no_lane lane)

lane_count : (lanes : List (List Command)) → lanes_in (script_lines lanes) ≡ length lanes
lane_count [] = refl
lane_count (lane ∷ lanes) =
    let begins = sum_by-cons (λ x. if begins_lane x then 1 else 0) lines.Lane (gives lane ++ script_lines lanes) in
    let joined = sum_by-append (λ x. if begins_lane x then 1 else 0) (gives lane) (script_lines lanes) in
    omega (arith, begins, joined, no_lane lane, lane_count lanes)

right_joined : (xs ys : List Line) → RightLines xs → RightLines ys → RightLines (xs ++ ys)
right_joined [] ys x y = y
right_joined (_ ∷ xs) ys x y = (x.0, right_joined xs ys x.1 y)

right_gives : (lane : List Command) → AllByRecursion IsRight lane → RightLines (gives lane)
right_gives [] right = tt
right_gives (_ ∷ lane) right = (right.0, right_gives lane right.1)

right_lines : (lanes : List (List Command)) → AllByRecursion (All IsRight) lanes → RightLines (script_lines lanes)
right_lines [] right = tt
right_lines (lane ∷ lanes) right =
    right_joined (lane_lines lane) (script_lines lanes) (tt, right_gives lane (recursion_from_All IsRight lane right.0)) (right_lines lanes right.1)

unrefused_lanes : (lanes : List (List Command)) → RightLines (script_lines lanes) → length lanes ≤ MOST_LANES → frames_in (script_lines lanes) ≤ MOST_FRAMES → first_refusal (words_in (script_lines lanes)) ≡ None
unfolding first_refusal
unrefused_lanes [] right few short = refl
unrefused_lanes (lane ∷ lanes) right few short =
    none_refused (gives lane ++ script_lines lanes) right.1 (omega (arith, few, lane_count (lane ∷ lanes))) short

pub scripts_read_back : ScriptsReadBack
unfolding script_of worded_lines
scripts_read_back lanes are short =
    let ls = script_lines lanes in
    let right = right_lines lanes (recursion_from_All (All IsRight) lanes are.right) in
    ap (λ (ws : List (List (List ℕ))). lanes_unless (said ws) (first_refusal ws)) (ap (map words_of) (lines_written (script_lines lanes) right))
    ∙ ap (lanes_unless (said (words_in (script_lines lanes)))) (unrefused_lanes lanes right are.few short)
    ∙ ap (λ (xs : List Line). Ok (lanes_of xs)) (said_written (script_lines lanes) right)
    ∙ ap (λ (xs : List (List Command)). Ok xs) (lanes_again lanes)
