-- The texts of a lane and of all lanes, one command and one lane at a time.
use Rattle.std.proofs.Common.{◌≡◌, ◌≢◌, ℕ, zero, suc, ◌+◌, ◌<◌, ◌≤◌, Bool, true, false, cond, eqb, List, [], ◌∷◌, ◌++◌, length, map, take, drop, get_or, set, Option, Some, None, option_map, refl, sym, ap, ◌∙◌, append_assoc, add-one, drop-cons, arith}
use Rattle.std.specs.List.{slice_get, enumerate_from}
use Rattle.std.specs.Option.{unwrap_or}
use Rattle.std.proofs.lemmas.List.{length-map, map-set, get_or-map, get_or-set_same, take_more, take_all, take-append-le, drop_all, append-nil}
use Rattle.std.proofs.lemmas.Bool.{eqb-false}
use Rattle.std.proofs.lemmas.List.FromFn.{length-enumerate_from}
use Rattle.std.proofs.lemmas.Option.{slice_get_within, slice_get_read, get_or_from_slice_get}
use Rattle.model_synthesis.specs.Tables.{ConstantTables}
use Rattle.model_line.specs.declared.item.Item.{Item}
use Rattle.model_line.specs.Acceptance.{FilmLink}
use Rattle.model_cursor.specs.Positions.{Position}
use Rattle.model_script.specs.declared.command.Command.{Command}
use Rattle.model_script.specs.declared.command.Command.TheVariants as commands
use Rattle.model_script.specs.declared.command.Answer.{Answer}
use Rattle.model_script.specs.Scripts.{IsRight}
use Rattle.model_script.specs.Texts.{reply_line}
use Rattle.model_report.specs.Lanes.{Heard, LaneCursor, cursor_of, cursor_at, cursor_answer, cross_answer, answer_among, lane_answer, lane_answers}
use Rattle.model_report.specs.Reports.{channels_of, heard_of, answer_line, answer_lines, lane_text, lane_texts, report_of}
use Rattle.model_report.proofs.ReportLaws.{lanes_are_apart}
use Rattle.script_playing.specs.Playing.{state_at, two_of}

-- ---- one command

cursor_within : (command : Command) → IsRight command → cursor_of command < 16
cursor_within (commands.Open c) right = omega (arith, right)
cursor_within (commands.Read c n) right = omega (arith, right.0)
cursor_within (commands.Seek c p) right = omega (arith, right.0)
cursor_within (commands.Lap c p) right = omega (arith, right.0)
cursor_within (commands.Cross c d) right = omega (arith, right.1)
cursor_within (commands.Tell c) right = omega (arith, right)
cursor_within (commands.Close c) right = omega (arith, right)

-- what a command does to its own cursor, as it is kept, is what it does among the cursors of its lane
turn_by : (heard : Heard) (items : List Item) (before : List (Option Position)) (command : Command) (own : Option Position) (answer : Answer)
    → answer_among heard (map (state_at items) before) command ≡ (answer, state_at items own)
    → lane_answer heard (map (state_at items) before) command ≡ (answer, map (state_at items) (set before (cursor_of command) own))
unfolding lane_answer
turn_by heard items before command own answer said =
    let among : Answer × LaneCursor → Answer × List LaneCursor = λ r. (r.0, set (map (state_at items) before) (cursor_of command) r.1) in
    ap among said ∙ ap (λ (all : List LaneCursor). let r : Answer × List LaneCursor = (answer, all) in r) (sym (map-set (state_at items) before (cursor_of command) own))

-- a cursor of a lane, as it is kept
kept : (items : List Item) (before : List (Option Position)) (number : ℕ) → number < length before → cursor_at (map (state_at items) before) number ≡ state_at items (get_or before number None)
kept items before number lt = get_or-map (state_at items) before number None None lt

one_of : {A : Type 0} (b : Bool) (x : ℕ × ℕ) (p q : A) → cond b None (Some x) ≡ None → cond b p q ≡ p
one_of true x p q e = refl
one_of false x p q e = cc

-- a command that is no cross of two cursors has an answer of its own cursor
among_one : (heard : Heard) (cursors : List LaneCursor) (command : Command) → two_of command ≡ None → answer_among heard cursors command ≡ cursor_answer heard command (cursor_at cursors (cursor_of command))
among_one heard cursors (commands.Open c) e = refl
among_one heard cursors (commands.Read c n) e = refl
among_one heard cursors (commands.Seek c p) e = refl
among_one heard cursors (commands.Lap c p) e = refl
among_one heard cursors (commands.Cross c d) e = one_of (eqb c d) (c, d) _ _ e
among_one heard cursors (commands.Tell c) e = refl
among_one heard cursors (commands.Close c) e = refl

-- the same where the cursor was found at a number
pub one_turn : (heard : Heard) (items : List Item) (before : List (Option Position)) (command : Command) (number : ℕ) (found own : Option Position) (answer : Answer) → IsRight command → length before ≡ 16 → two_of command ≡ None → number ≡ cursor_of command
    → found ≡ get_or before number found → cursor_answer heard command (state_at items found) ≡ (answer, state_at items own)
    → lane_answer heard (map (state_at items) before) command ≡ (answer, map (state_at items) (set before number own))
one_turn heard items before command number found own answer right count one number-is at said =
    let lt : number < length before = omega (arith, cursor_within command right, count, number-is) in
    let there : slice_get before number ≡ Some found = slice_get_read before (length before) number found refl lt at in
    let same : get_or before number None ≡ found = get_or_from_slice_get before number found None there in
    let own_cursor : cursor_at (map (state_at items) before) (cursor_of command) ≡ state_at items found = ap (cursor_at (map (state_at items) before)) (sym number-is) ∙ (kept items before number lt ∙ ap (λ (x : Option Position). state_at items x) same) in
    let turn = turn_by heard items before command own answer (among_one heard (map (state_at items) before) command one ∙ (ap (cursor_answer heard command) own_cursor ∙ said)) in
    rw number-is turn

-- ---- a cross of two cursors

set_set : {A : Type 0} (xs : List A) (i : ℕ) (x y : A) → set (set xs i x) i y ≡ set xs i y
set_set [] i x y = refl
set_set (z ∷ zs) zero x y = refl
set_set {A} (z ∷ zs) (suc i) x y = ap (λ (xs : List A). z ∷ xs) (set_set zs i x y)

-- what was taken out of its place is put back as another
pub put_back : {A : Type 0} (xs : List A) (i : ℕ) (x y d : A) → i < length xs → set (set xs i x) i y ≡ set xs i (get_or (set (set xs i x) i y) i d)
put_back {A} xs i x y d lt =
    let twice = set_set xs i x y in
    let found : get_or (set (set xs i x) i y) i d ≡ y = ap (λ (ys : List A). get_or ys i d) twice ∙ get_or-set_same xs i y d lt in
    twice ∙ ap (set xs i) (sym found)

-- such a command is a cross of different cursors of a lane
pub record IsCross (heard : Heard) (cursors : List LaneCursor) (command : Command) (old new : ℕ) : Type 0 where
  pub own : cursor_of command ≡ new
  pub answer : answer_among heard cursors command ≡ cross_answer heard (cursor_at cursors old) (cursor_at cursors new)
  pub old_within : old < 16
  pub new_within : new < 16
  pub apart : old ≢ new

two_from : (heard : Heard) (cursors : List LaneCursor) (c d old new : ℕ) (b : Bool) → eqb c d ≡ b → IsRight (commands.Cross c d) → cond {A = Option (ℕ × ℕ)} b None (Some (c, d)) ≡ Some (old, new) → IsCross heard cursors (commands.Cross c d) old new
two_from heard cursors c d old new true e right is = cc
two_from heard cursors c d old new false e right is =
    let both : Option (ℕ × ℕ) → ℕ × ℕ = λ x. unwrap_or x (0, 0) in
    let first : c ≡ old = ap (λ (x : Option (ℕ × ℕ)). (both x).0) is in
    let second : d ≡ new = ap (λ (x : Option (ℕ × ℕ)). (both x).1) is in
    let answer : answer_among heard cursors (commands.Cross c d) ≡ cross_answer heard (cursor_at cursors c) (cursor_at cursors d) = ap (λ (b : Bool). cond b (cursor_answer heard (commands.Cross c d) (cursor_at cursors d)) (cross_answer heard (cursor_at cursors c) (cursor_at cursors d))) e in
    let apart : c ≢ d = eqb-false c d e in
    rw (sym first, sym second) (record {
      own = refl;
      answer = answer;
      old_within = omega (arith, right.0);
      new_within = omega (arith, right.1);
      apart = apart;
    })

pub is_cross : (heard : Heard) (cursors : List LaneCursor) (command : Command) (old new : ℕ) → IsRight command → two_of command ≡ Some (old, new) → IsCross heard cursors command old new
is_cross heard cursors (commands.Open c) old new right e = cc
is_cross heard cursors (commands.Read c n) old new right e = cc
is_cross heard cursors (commands.Seek c p) old new right e = cc
is_cross heard cursors (commands.Lap c p) old new right e = cc
is_cross heard cursors (commands.Cross c d) old new right e = two_from heard cursors c d old new (eqb c d) refl right e
is_cross heard cursors (commands.Tell c) old new right e = cc
is_cross heard cursors (commands.Close c) old new right e = cc

pub two_turn : (heard : Heard) (items : List Item) (before after : List (Option Position)) (command : Command) (old new : ℕ) (own : Option Position) (answer : Answer) → IsRight command → length before ≡ 16 → two_of command ≡ Some (old, new)
    → cross_answer heard (state_at items (get_or before old None)) (state_at items (get_or before new None)) ≡ (answer, state_at items own) → after ≡ set before new own
    → lane_answer heard (map (state_at items) before) command ≡ (answer, map (state_at items) after)
two_turn heard items before after command old new own answer right count two said after-is =
    let is = is_cross heard (map (state_at items) before) command old new right two in
    let olds = kept items before old (omega (arith, is.old_within, count)) in
    let news = kept items before new (omega (arith, is.new_within, count)) in
    let among : answer_among heard (map (state_at items) before) command ≡ (answer, state_at items own) =
    is.answer ∙ (ap (λ (x : LaneCursor). cross_answer heard x (cursor_at (map (state_at items) before) new)) olds ∙ (ap (λ (x : LaneCursor). cross_answer heard (state_at items (get_or before old None)) x) news ∙ said)) in
    let turn = turn_by heard items before command own answer among in
    rw after-is (rw is.own at turn)

-- the line of an answer stands behind what was written
pub line_written : (channels : ℕ → ℕ) (command : Command) (answer said : Answer) (count : ℕ) (old new : List ℕ) → new ≡ old ++ reply_line command answer count → count ≡ channels_of channels answer → said ≡ answer
    → new ≡ old ++ answer_line channels (command, said)
line_written channels command answer said count old new is count-is said-is = rw said-is (is ∙ ap (λ (n : ℕ). old ++ reply_line command answer n) count-is)

-- what was lent for writing, and comes back as long as it was
pub given_back : {A : Type 0} (n : ℕ) (xs ys : List A) → n ≡ length xs → take n (xs ++ ys) ≡ xs
given_back n xs ys e = take-append-le n xs ys (omega (arith, e)) ∙ take_all n xs (omega (arith, e))

-- ---- a lane

answer_lines-cons : (heard : Heard) (cursors : List LaneCursor) (command : Command) (commands : List Command)
    → answer_lines heard cursors (command ∷ commands) ≡ answer_line heard.channels (command, (lane_answer heard cursors command).0) ++ answer_lines heard (lane_answer heard cursors command).1 commands
unfolding answer_lines lane_answers
answer_lines-cons heard cursors command commands = refl

pub lane_step : (heard : Heard) (commands : List Command) (i : ℕ) (d command : Command) (cursors after : List LaneCursor) (text more whole : List ℕ) → i < length commands → get_or commands i d ≡ command
    → more ≡ text ++ answer_line heard.channels (command, (lane_answer heard cursors command).0) → after ≡ (lane_answer heard cursors command).1
    → text ++ answer_lines heard cursors (drop i commands) ≡ whole → more ++ answer_lines heard after (drop (i + 1) commands) ≡ whole
lane_step heard commands i d command cursors after text more whole lt is more-is after-is h =
    let rest = drop (i + 1) commands in
    let front : drop i commands ≡ command ∷ drop (i + 1) commands = rw add-one (drop-cons commands i d lt ∙ ap (λ (x : Command). x ∷ drop (suc i) commands) is) in
    let lines = ap (answer_lines heard cursors) front ∙ answer_lines-cons heard cursors command rest in
    rw (more-is, after-is)
    (append_assoc text (answer_line heard.channels (command, (lane_answer heard cursors command).0)) (answer_lines heard (lane_answer heard cursors command).1 rest)
    ∙ (ap (λ (more : List ℕ). text ++ more) (sym lines) ∙ h))

pub lane_end : (heard : Heard) (commands : List Command) (i : ℕ) (cursors : List LaneCursor) (text whole : List ℕ) → length commands ≤ i
    → text ++ answer_lines heard cursors (drop i commands) ≡ whole → text ≡ whole
unfolding answer_lines lane_answers
lane_end heard commands i cursors text whole past h =
    let none : drop i commands ≡ [] = drop_all i commands past in
    sym (append-nil text) ∙ (ap (λ (cs : List Command). text ++ answer_lines heard cursors cs) (sym none) ∙ h)

-- ---- all lanes

pub report_step : (tables : ConstantTables) (links : List FilmLink) (lanes : List (List Command)) (i : ℕ) (commands : List Command) (text : List ℕ) (texts more : List (List ℕ)) → slice_get lanes i ≡ Some commands
    → text ≡ lane_text (heard_of tables links) (i, commands) → more ≡ texts ++ text ∷ []
    → texts ≡ take i (report_of tables links lanes) → more ≡ take (i + 1) (report_of tables links lanes)
unfolding report_of
report_step tables links lanes i commands text texts more there text-is more-is h =
    let all = lane_texts (heard_of tables links) lanes in
    let found : slice_get all i ≡ Some text =
    lanes_are_apart (heard_of tables links) lanes i
    ∙ (ap (option_map (λ (cs : List Command). lane_text (heard_of tables links) (i, cs))) there
    ∙ ap (λ (t : List ℕ). let one : Option (List ℕ) = Some t in one) (sym text-is)) in
    let item : get_or all i text ≡ text = get_or_from_slice_get all i text text found in
    let one_more : take (i + 1) all ≡ take i all ++ text ∷ [] = take_more all i text (slice_get_within all i text found) ∙ ap (λ (t : List ℕ). take i all ++ t ∷ []) item in
    more-is ∙ (ap (λ (ts : List (List ℕ)). ts ++ text ∷ []) h ∙ sym one_more)

pub report_end : (tables : ConstantTables) (links : List FilmLink) (lanes : List (List Command)) (i : ℕ) (texts : List (List ℕ)) → length lanes ≤ i → texts ≡ take i (report_of tables links lanes) → texts ≡ report_of tables links lanes
unfolding report_of lane_texts
report_end tables links lanes i texts past h =
    let count : length (map (lane_text (heard_of tables links)) (enumerate_from 0 lanes)) ≡ length lanes = length-map (enumerate_from 0 lanes) (lane_text (heard_of tables links)) ∙ length-enumerate_from 0 lanes in
    h ∙ take_all i (map (lane_text (heard_of tables links)) (enumerate_from 0 lanes)) (omega (arith, count, past))
