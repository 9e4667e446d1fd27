-- What is drawn for a script, one thing after the other, and what is written of it.
use Rattle.std.proofs.Common.{◌≡◌, ℕ, suc, ◌+◌, ◌-◌, ◌%◌, ◌^◌, ◌<◌, ◌≤◌, false, List, [], ◌∷◌, ◌++◌, map, Result, Ok, Err, refl, sym, ap, ◌∙◌, arith, append-nil, append_assoc}
use Rattle.std.specs.Prelude.{OnOk, IfOk, codes, ◌==◌, if◌then◌else◌}
use Rattle.std.specs.List.{flat_map}
use Rattle.std.specs.Fmt.{digits}
use Rattle.std.proofs.lemmas.Bool.{lt-ltb}
use Rattle.std.proofs.lemmas.Bool.Decides.{nat_tests}
use Rattle.std.proofs.lemmas.List.Concat.{flat_map-append}
use Rattle.rand_pcg.specs.Lcg.{Lcg}
use Rattle.model_script.specs.declared.command.Command.{Command}
use Rattle.model_script.specs.declared.command.Command.TheVariants as commands
use Rattle.model_script.specs.declared.command.Line.TheVariants as lines
use Rattle.model_trial.specs.declared.numbers.TheConstants.{MADE_LANES, MADE_COMMANDS}
use Rattle.model_trial.specs.Draws.{Draw, generator, draw, draws, give}
use Rattle.model_trial.specs.MadeScript.{command_line, ended_line, lane_lines, script_lines, script_text, drawn_read, drawn_seek, drawn_lap, drawn_for, drawn_of_cursor, drawn_by, drawn_command, drawn_commands, drawn_lane, drawn_lanes, made_lanes, made_script}

-- what follows where a call was done
pub on_ok : {T E P Q : Type 0} (r : Result T E) → (P → Q) → OnOk r P → OnOk r Q
on_ok (Ok x) f p = f p
on_ok (Err e) f p = p

pub if_ok : {T E : Type 0} {P Q : T → Type 0} (r : Result T E) → ((x : T) → P x → Q x) → IfOk r P → IfOk r Q
if_ok (Ok x) f p = f x p
if_ok (Err e) f p = p

-- ---- commands

pub reads : (kind cursor n : ℕ) (g h : Lcg) → kind < 4 → (n, h) ≡ draw 2000 g → (commands.Read cursor (1 + n), h) ≡ drawn_for kind cursor g
unfolding drawn_for drawn_read
reads kind cursor n g h low e =
    ap (λ (p : ℕ × Lcg). (commands.Read cursor (1 + p.0), p.1)) e
    ∙ sym (ap (λ b. (if b then drawn_read cursor else (if kind == 4 then drawn_seek cursor else (if kind == 5 then drawn_lap cursor else give (commands.Tell cursor)))) g) (lt-ltb kind 4 low))

pub seeks : (kind cursor p : ℕ) (g h : Lcg) → kind ≡ 4 → (p, h) ≡ draw 400000 g → (commands.Seek cursor p, h) ≡ drawn_for kind cursor g
unfolding drawn_for drawn_seek
seeks kind cursor p g h is e =
    ap (λ (q : ℕ × Lcg). (commands.Seek cursor q.0, q.1)) e ∙ sym (ap (λ k. drawn_for k cursor g) is)

pub laps : (kind cursor p : ℕ) (g h : Lcg) → kind ≡ 5 → (p, h) ≡ draw 400000 g → (commands.Lap cursor p, h) ≡ drawn_for kind cursor g
unfolding drawn_for drawn_lap
laps kind cursor p g h is e =
    ap (λ (q : ℕ × Lcg). (commands.Lap cursor q.0, q.1)) e ∙ sym (ap (λ k. drawn_for k cursor g) is)

pub crosses : (kind : ℕ) (g h : Lcg) → kind ≡ 6 → (kind, h) ≡ draw 8 g → (commands.Cross 0 1, h) ≡ drawn_command g
unfolding drawn_command drawn_by
crosses kind g h is e =
    sym (ap (λ k. drawn_by k h) is) ∙ ap (λ (q : ℕ × Lcg). drawn_by q.0 q.1) e

pub others : (kind : ℕ) (g h : Lcg) → ¬ (kind ≡ 6) → (kind, h) ≡ draw 8 g → drawn_of_cursor kind h ≡ drawn_command g
unfolding drawn_command drawn_by
others kind g h differs e =
    let other : (kind == 6) ≡ false = grind (arith, nat_tests) in
    sym (ap (λ b. (if b then give (commands.Cross 0 1) else drawn_of_cursor kind) h) other) ∙ ap (λ (q : ℕ × Lcg). drawn_by q.0 q.1) e

pub cross_line : command_line (commands.Cross 0 1) ≡ codes "cross 0 1" ++ 10 ∷ []
unfolding digits
cross_line = refl

pub opening : flat_map ended_line (lines.Lane ∷ lines.Gives (commands.Open 0) ∷ lines.Gives (commands.Open 1) ∷ []) ≡ codes "lane" ++ (10 ∷ (codes "open 0" ++ (10 ∷ (codes "open 1" ++ 10 ∷ []))))
unfolding digits
opening = refl

-- ---- one after the other

module _ {A : Type 0} (m : Draw A) (written : A → List ℕ) where
  -- what is written so far, and what is written of the values that are still drawn
  abbrev pub whole : List ℕ → ℕ → Lcg → List ℕ × Lcg
  whole bytes n g = (bytes ++ flat_map written (draws n m g).0, (draws n m g).1)

  pub one_more : (bytes after : List ℕ) (count i : ℕ) (g h : Lcg) → i < count → after ≡ bytes ++ written (m g).0 → h ≡ (m g).1 → whole after (count - (i + 1)) h ≡ whole bytes (count - i) g
  one_more bytes after count i g h low now next =
      let more : count - i ≡ suc (count - (i + 1)) = omega arith in
      let n = count - (i + 1) in
      ap (λ k. whole after (count - (i + 1)) k) next
      ∙ ap (λ (bs : List ℕ). whole bs (count - (i + 1)) (m g).1) now
      ∙ ap (λ (bs : List ℕ). (bs, (draws (count - (i + 1)) m (m g).1).1)) (append_assoc bytes (written (m g).0) (flat_map written (draws (count - (i + 1)) m (m g).1).0))
      ∙ sym (ap (λ k. whole bytes k g) more)

  -- where all are drawn
  pub all_drawn : (bytes before : List ℕ) (count i : ℕ) (g h : Lcg) → count ≤ i → whole bytes (count - i) g ≡ whole before (count - 0) h → let now : List ℕ × Lcg = (bytes, g) in now ≡ whole before count h
  all_drawn bytes before count i g h end so_far =
      let none : count - i ≡ 0 = omega arith in
      let from : count - 0 ≡ count = omega arith in
      sym (ap (λ (bs : List ℕ). (bs, g)) (append-nil bytes)) ∙ sym (ap (λ k. whole bytes k g) none)
      ∙ so_far ∙ ap (λ k. whole before k h) from

-- the lines of a lane, by its commands
commands_by_lines : (lane : List Command) → flat_map command_line lane ≡ flat_map ended_line (map (λ command. lines.Gives command) lane)
commands_by_lines [] = refl
commands_by_lines (command ∷ lane) = ap (λ (bs : List ℕ). command_line command ++ bs) (commands_by_lines lane)

abbrev pub lane_text : List Command → List ℕ
lane_text lane = flat_map ended_line (lane_lines lane)

lanes_by_lines : (lanes : List (List Command)) → flat_map lane_text lanes ≡ script_text lanes
lanes_by_lines [] = refl
lanes_by_lines (lane ∷ lanes) =
    ap (λ (bs : List ℕ). lane_text lane ++ bs) (lanes_by_lines lanes)
    ∙ sym (flat_map-append ended_line (lane_lines lane) (script_lines lanes))

-- a lane: its first three lines, and those of what is drawn
pub lane_is : (g : Lcg) → (codes "lane" ++ (10 ∷ (codes "open 0" ++ (10 ∷ (codes "open 1" ++ 10 ∷ []))))) ++ flat_map command_line (drawn_commands g).0 ≡ lane_text (drawn_lane g).0
unfolding drawn_lane digits
lane_is g = ap (λ (bs : List ℕ). codes "lane" ++ (10 ∷ (codes "open 0" ++ (10 ∷ (codes "open 1" ++ (10 ∷ bs)))))) (commands_by_lines (drawn_commands g).0)

pub lane_goes_on : (g : Lcg) → (drawn_commands g).1 ≡ (drawn_lane g).1
unfolding drawn_lane
lane_goes_on g = refl

-- all commands of a lane
pub commands_drawn : (bytes before : List ℕ) (i : ℕ) (g h : Lcg) → MADE_COMMANDS ≤ i → whole drawn_command command_line bytes (MADE_COMMANDS - i) g ≡ whole drawn_command command_line before (MADE_COMMANDS - 0) h
    → let drawn : List ℕ × Lcg = (before ++ flat_map command_line (drawn_commands h).0, (drawn_commands h).1) in let now : List ℕ × Lcg = (bytes, g) in now ≡ drawn
unfolding drawn_commands
commands_drawn bytes before i g h end so_far = all_drawn drawn_command command_line bytes before MADE_COMMANDS i g h end so_far

-- all lanes
pub script_drawn : (number : ℕ) (bytes : List ℕ) (i : ℕ) (g : Lcg) → MADE_LANES ≤ i → whole drawn_lane lane_text bytes (MADE_LANES - i) g ≡ whole drawn_lane lane_text [] (MADE_LANES - 0) (generator ((number + 1) % 2 ^ 64))
    → bytes ≡ made_script number
unfolding made_script made_lanes drawn_lanes
script_drawn number bytes i g end so_far =
    let start = generator ((number + 1) % 2 ^ 64) in
    ap (λ (p : List ℕ × Lcg). p.0) (all_drawn drawn_lane lane_text bytes [] MADE_LANES i g (generator ((number + 1) % 2 ^ 64)) end so_far)
    ∙ lanes_by_lines (draws MADE_LANES drawn_lane (generator ((number + 1) % 2 ^ 64))).0
