-- What is drawn for a script is right, whatever the words are.
use Rattle.std.proofs.Common.{◌≡◌, ℕ, zero, suc, ◌+◌, ◌*◌, ◌%◌, ◌^◌, ◌<◌, ◌≤◌, Bool, true, false, List, [], ◌∷◌, ◌++◌, length, refl, ap, arith, lit<, lit≤, length-append}
use Rattle.std.specs.Prelude.{nat_lt, ◌==◌, if◌then◌else◌}
use Rattle.std.specs.List.{All, AllByRecursion}
use Rattle.std.proofs.lemmas.List.{length-map}
use Rattle.std.proofs.lemmas.List.Sums.{sum_by-le}
use Rattle.std.proofs.lemmas.List.Elements.{All-from_recursion}
use Rattle.std.proofs.Math.Nat.{mod-lt}
use Rattle.rand_pcg.specs.Lcg.{Lcg}
use Rattle.rand_pcg.specs.Pcg.{pcg32}
use Rattle.model_script.specs.declared.limits.TheConstants.{MOST_FRAMES}
use Rattle.model_script.specs.declared.command.Command.{Command}
use Rattle.model_script.specs.declared.command.Command.TheVariants as commands
use Rattle.model_script.specs.declared.command.Line.{Line}
use Rattle.model_script.specs.declared.command.Line.TheVariants as lines
use Rattle.model_script.specs.Scripts.{IsRight, AreLanes, frames_of, frames_of_command, frames_in}
use Rattle.model_trial.specs.declared.numbers.TheConstants.{MADE_LANES, MADE_COMMANDS}
use Rattle.model_trial.specs.Draws.{Draw, draw, draws, generator, give}
use Rattle.model_trial.specs.MadeScript.{lane_lines, script_lines, drawn_read, drawn_seek, drawn_lap, drawn_for, drawn_of_cursor, drawn_by, drawn_command, drawn_commands, drawn_lane, drawn_lanes, made_lanes, made_script, MadeScriptsAreAccepted}
use Rattle.model_trial.proofs.ScriptLines.{gives, scripts_read_back}

-- ---- values in a row

pub draws_length : {A : Type 0} (m : Draw A) (n : ℕ) (g : Lcg) → length (draws n m g).0 ≡ n
draws_length m zero g = refl
draws_length m (suc n) g = ap suc (draws_length m n (m g).1)

pub draws_all : {A : Type 0} (P : A → Type 0) (m : Draw A) → ((g : Lcg) → P (m g).0) → (n : ℕ) (g : Lcg) → AllByRecursion P (draws n m g).0
draws_all P m holds zero g = tt
draws_all P m holds (suc n) g = (holds g, draws_all P m holds n (m g).1)

-- a number that is drawn below another
pub drawn_below : (n : ℕ) (g : Lcg) → zero < n → (draw n g).0 < n
unfolding draw
drawn_below n g some = mod-lt (pcg32 g).0 some

-- ---- commands

-- a command as a script may have it, which asks for few frames
record IsModest (command : Command) : Type 0 where
  right : IsRight command
  few : frames_of_command command ≤ 2000

modest_read : (cursor : ℕ) → cursor < 2 → (g : Lcg) → IsModest (drawn_read cursor g).0
unfolding drawn_read
modest_read cursor h g = let small = drawn_below 2000 g (lit< tt) in record { right = (omega arith, omega arith, omega (arith, small)); few = omega (arith, small) }

modest_seek : (cursor : ℕ) → cursor < 2 → (g : Lcg) → IsModest (drawn_seek cursor g).0
unfolding drawn_seek
modest_seek cursor h g = let small = drawn_below 400000 g (lit< tt) in record { right = (omega arith, omega (arith, small)); few = lit≤ tt }

modest_lap : (cursor : ℕ) → cursor < 2 → (g : Lcg) → IsModest (drawn_lap cursor g).0
unfolding drawn_lap
modest_lap cursor h g = let small = drawn_below 400000 g (lit< tt) in record { right = (omega arith, omega (arith, small)); few = lit≤ tt }

modest_tell : (cursor : ℕ) → cursor < 2 → IsModest (commands.Tell cursor)
modest_tell cursor h = record { right = omega arith; few = lit≤ tt }

modest_cross : IsModest (commands.Cross 0 1)
modest_cross = record { right = (lit≤ tt, lit≤ tt); few = lit≤ tt }

-- a choice, each way of which is modest
chosen : (b : Bool) (m n : Draw Command) (g : Lcg) → IsModest (m g).0 → IsModest (n g).0 → IsModest ((if b then m else n) g).0
chosen true m n g x y = x
chosen false m n g x y = y

modest_for : (kind cursor : ℕ) → cursor < 2 → (g : Lcg) → IsModest (drawn_for kind cursor g).0
unfolding drawn_for
modest_for kind cursor h g =
    chosen (nat_lt kind 4) (drawn_read cursor) (if kind == 4 then drawn_seek cursor else (if kind == 5 then drawn_lap cursor else give (commands.Tell cursor))) g (modest_read cursor h g)
    (chosen (kind == 4) (drawn_seek cursor) (if kind == 5 then drawn_lap cursor else give (commands.Tell cursor)) g (modest_seek cursor h g)
    (chosen (kind == 5) (drawn_lap cursor) (give (commands.Tell cursor)) g (modest_lap cursor h g) (modest_tell cursor h)))

modest_of_cursor : (kind : ℕ) (g : Lcg) → IsModest (drawn_of_cursor kind g).0
unfolding drawn_of_cursor
modest_of_cursor kind g = modest_for kind (draw 2 g).0 (drawn_below 2 g (lit< tt)) (draw 2 g).1

modest_by : (kind : ℕ) (g : Lcg) → IsModest (drawn_by kind g).0
unfolding drawn_by
modest_by kind g = chosen (kind == 6) (give (commands.Cross 0 1)) (drawn_of_cursor kind) g modest_cross (modest_of_cursor kind g)

modest_command : (g : Lcg) → IsModest (drawn_command g).0
unfolding drawn_command
modest_command g = modest_by (draw 8 g).0 (draw 8 g).1

-- ---- lanes

record IsModestLane (lane : List Command) : Type 0 where
  size : length lane ≡ 42
  each : AllByRecursion IsModest lane

modest_lane : (g : Lcg) → IsModestLane (drawn_lane g).0
unfolding drawn_lane drawn_commands
modest_lane g = record {
  size = omega (arith, draws_length drawn_command MADE_COMMANDS g);
  each = (record { right = lit≤ tt; few = lit≤ tt }, (record { right = lit≤ tt; few = lit≤ tt }, draws_all IsModest drawn_command modest_command MADE_COMMANDS g));
}

-- ---- whole scripts

rights : (lane : List Command) → AllByRecursion IsModest lane → AllByRecursion IsRight lane
rights [] each = tt
rights (_ ∷ lane) each = (each.0.right, rights lane each.1)

all_rights : (lanes : List (List Command)) → AllByRecursion IsModestLane lanes → AllByRecursion (All IsRight) lanes
all_rights [] each = tt
all_rights (lane ∷ lanes) each = (All-from_recursion IsRight lane (rights lane each.0.each), all_rights lanes each.1)

abbrev FewFrames : List Line → Type 0
FewFrames = AllByRecursion (λ l. frames_of l ≤ 2000)

few_joined : (xs ys : List Line) → FewFrames xs → FewFrames ys → FewFrames (xs ++ ys)
few_joined [] ys x y = y
few_joined (_ ∷ xs) ys x y = (x.0, few_joined xs ys x.1 y)

few_given : (lane : List Command) → AllByRecursion IsModest lane → FewFrames (gives lane)
few_given [] each = tt
few_given (_ ∷ lane) each = (each.0.few, few_given lane each.1)

few_in : (lanes : List (List Command)) → AllByRecursion IsModestLane lanes → FewFrames (script_lines lanes)
few_in [] each = tt
few_in (lane ∷ lanes) each = few_joined (lane_lines lane) (script_lines lanes) (lit≤ tt, few_given lane each.0.each) (few_in lanes each.1)

line_count : (lanes : List (List Command)) → AllByRecursion IsModestLane lanes → length (script_lines lanes) ≡ 43 * length lanes
line_count [] each = refl
line_count (lane ∷ lanes) each =
    let own : length (gives lane) ≡ length lane = length-map lane (λ command. lines.Gives command) in
    omega (arith, own, each.0.size, line_count lanes each.1, length-append (gives lane) (script_lines lanes))

module _ (number : ℕ) where
  modest_lanes : AllByRecursion IsModestLane (made_lanes number)
  unfolding made_lanes drawn_lanes
  modest_lanes = draws_all IsModestLane drawn_lane modest_lane MADE_LANES (generator ((number + 1) % 2 ^ 64))

  made_lane_count : length (made_lanes number) ≡ 4
  unfolding made_lanes drawn_lanes
  made_lane_count = draws_length drawn_lane MADE_LANES (generator ((number + 1) % 2 ^ 64))

  are_lanes : AreLanes (made_lanes number)
  are_lanes = record {
    few = omega (arith, made_lane_count);
    right = All-from_recursion (All IsRight) (made_lanes number) (all_rights (made_lanes number) modest_lanes);
  }

  few_frames : frames_in (script_lines (made_lanes number)) ≤ MOST_FRAMES
  few_frames =
      let most : frames_in (script_lines (made_lanes number)) ≤ length (script_lines (made_lanes number)) * 2000 = sum_by-le frames_of 2000 (script_lines (made_lanes number)) (All-from_recursion (λ l. frames_of l ≤ 2000) (script_lines (made_lanes number)) (few_in (made_lanes number) modest_lanes)) in
      omega (arith, most, line_count (made_lanes number) modest_lanes, made_lane_count)

pub made_scripts_are_accepted : MadeScriptsAreAccepted
unfolding made_script
made_scripts_are_accepted number = scripts_read_back (made_lanes number) (are_lanes number) (few_frames number)
