-- Whether a line passes a limit, and the lanes with one command more.
use Rattle.std.proofs.Common.{◌≡◌, ℕ, zero, suc, ◌+◌, ◌≤◌, false, List, [], ◌∷◌, ◌++◌, length, get_or, set, None, refl, ap, ◌∙◌, arith}
use Rattle.std.specs.Prelude.{nat_lt}
use Rattle.std.proofs.lemmas.Bool.Decides.{nat_tests}
use Rattle.model_script.specs.declared.limits.TheConstants.{MOST_LANES, MOST_FRAMES}
use Rattle.model_script.specs.declared.command.Command.{Command}
use Rattle.model_script.specs.declared.command.Line.{Line}
use Rattle.model_script.specs.declared.fault.Which.TheVariants as limits
use Rattle.model_script.specs.declared.fault.ScriptFault.TheVariants as faults
use Rattle.model_script.specs.Lines.{when, first_some}
use Rattle.std.specs.List.{All}
use Rattle.std.proofs.lemmas.List.Elements.{All-nil, All-cons, All-head, All-tail, All-push}
use Rattle.model_script.specs.Scripts.{IsRight, AreLanes, frames_of, lanes_in}
use Rattle.player_script.specs.Steps.{given, limit_by}

-- neither limit is passed
pub no_limit : (lanes frames : ℕ) (line : Line) (number : ℕ) → lanes + lanes_in (line ∷ []) ≤ MOST_LANES → frames + frames_of line ≤ MOST_FRAMES → limit_by lanes frames line number ≡ None
no_limit lanes frames line number few most =
    let a : nat_lt MOST_LANES (lanes + lanes_in (line ∷ [])) ≡ false = grind (arith, nat_tests) in
    let b : nat_lt MOST_FRAMES (frames + frames_of line) ≡ false = grind (arith, nat_tests) in
    ap (λ x. first_some (when x (faults.Limit limits.Lanes number) ∷ when (nat_lt MOST_FRAMES (frames + frames_of line)) (faults.Limit limits.Frames number) ∷ [])) a
    ∙ ap (λ x. first_some (None ∷ when x (faults.Limit limits.Frames number) ∷ [])) b

pub length-given : (command : Command) (lanes : List (List Command)) → length (given command lanes) ≡ length lanes
length-given command [] = refl
length-given command (lane ∷ []) = refl
length-given command (lane ∷ next ∷ lanes) = ap suc (length-given command (next ∷ lanes))

-- a command is put behind those of the last lane
pub set-last : (command : Command) (lanes : List (List Command)) (last : List Command) (i : ℕ) → i + 1 ≡ length lanes → last ≡ get_or lanes i last → set lanes i (last ++ command ∷ []) ≡ given command lanes
set-last command [] last i h e = absurd (omega arith)
set-last command (lane ∷ []) last zero h e = ap (λ (l : List Command). (l ++ command ∷ []) ∷ []) e
set-last command (lane ∷ []) last (suc i) h e = absurd (omega arith)
set-last command (lane ∷ next ∷ lanes) last zero h e = absurd (omega arith)
set-last command (lane ∷ next ∷ lanes) last (suc i) h e =
    ap (λ (ls : List (List Command)). lane ∷ ls) (set-last command (next ∷ lanes) last i (omega arith) e)

right-given : (command : Command) → IsRight command → (lanes : List (List Command)) → All (All IsRight) lanes → All (All IsRight) (given command lanes)
right-given command r [] h = h
right-given command r (lane ∷ []) h =
    All-cons (All IsRight) (lane ++ command ∷ []) [] (All-push IsRight lane command (All-head (All IsRight) lane [] h) r) (All-nil (All IsRight))
right-given command r (lane ∷ next ∷ lanes) h =
    All-cons (All IsRight) lane (given command (next ∷ lanes)) (All-head (All IsRight) lane (next ∷ lanes) h)
    (right-given command r (next ∷ lanes) (All-tail (All IsRight) lane (next ∷ lanes) h))

-- lanes stay right
pub are-given : (command : Command) (lanes : List (List Command)) → IsRight command → AreLanes lanes → AreLanes (given command lanes)
are-given command lanes r h = record {
  few = rw (length-given command lanes) h.few;
  right = right-given command r lanes h.right;
}
