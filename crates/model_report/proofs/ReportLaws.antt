-- Lanes are apart, and so are the cursors of a lane.
use Rattle.std.proofs.Common.{◌≡◌, ◌≢◌, ℕ, zero, suc, ◌+◌, List, [], ◌∷◌, length, get_or, set, Bool, true, false, cond, eqb, Option, option_map, Some, None, ◌⊎◌, inl, inr, refl, ap, sym, ◌∙◌, eq-eqb, eqb-true, arith}
use Rattle.std.specs.List.{slice_get, enumerate_from}
use Rattle.std.proofs.lemmas.List.{set-get_or}
use Rattle.std.proofs.lemmas.Option.{slice_get-map, get_or_from_slice_get}
use Rattle.model_cursor.specs.Cursors.{CursorState}
use Rattle.model_script.specs.declared.command.Command.{Command}
use Rattle.model_script.specs.declared.command.Command.TheVariants.{Cross}
use Rattle.model_script.specs.declared.command.Answer.{Answer}
use Rattle.model_script.specs.declared.command.Answer.TheVariants as answers
use Rattle.model_report.specs.Lanes.{Heard, LaneCursor, cursor_of, cursor_at, cursor_answer, cross_answer, answer_among, lane_answer, lane_answers}
use Rattle.model_report.specs.Reports.{lane_text, lane_texts}
use Rattle.model_report.specs.Laws.{LanesAreApart, EachHasAnAnswer, OthersStay, OpensOnce, CrossesItself, CrossesOpenOnes}

slice_get-enumerate : {A : Type 0} (n : ℕ) (xs : List A) (i : ℕ) → slice_get (enumerate_from n xs) i ≡ option_map (λ (x : A). (n + i, x)) (slice_get xs i)
slice_get-enumerate n [] i = refl
slice_get-enumerate {A} n (x ∷ xs) zero = let e : n ≡ n + 0 = omega arith in ap (λ (k : ℕ). let p : Option (ℕ × A) = Some (k, x) in p) e
slice_get-enumerate {A} n (x ∷ xs) (suc i) =
    let e : n + 1 + i ≡ n + suc i = omega arith in
    slice_get-enumerate (n + 1) xs i ∙ ap (λ (k : ℕ). option_map (λ (y : A). (k, y)) (slice_get xs i)) e

mapped_pair : {A B : Type 0} (f : ℕ × A → B) (n : ℕ) (x : Option A) → option_map f (option_map (λ (y : A). (n, y)) x) ≡ option_map (λ (y : A). f (n, y)) x
mapped_pair f n None = refl
mapped_pair f n (Some x) = refl

pub lanes_are_apart : LanesAreApart
unfolding lane_texts
lanes_are_apart = λ heard lanes number.
    let e : 0 + number ≡ number = omega arith in
    slice_get-map (lane_text heard) (enumerate_from 0 lanes) number
    ∙ (ap (option_map (lane_text heard)) (slice_get-enumerate 0 lanes number ∙ ap (λ (k : ℕ). option_map (λ (y : List Command). (k, y)) (slice_get lanes number)) e)
    ∙ mapped_pair (lane_text heard) number (slice_get lanes number))

answers_count : (heard : Heard) (cursors : List LaneCursor) (commands : List Command) → length (lane_answers heard cursors commands) ≡ length commands
unfolding lane_answers
answers_count heard cursors [] = refl
answers_count heard cursors (command ∷ commands) = ap suc (answers_count heard (lane_answer heard cursors command).1 commands)

pub each_has_an_answer : EachHasAnAnswer
each_has_an_answer = answers_count

slice_get-set_other : {A : Type 0} (xs : List A) (i : ℕ) (x : A) (k : ℕ) → k ≢ i → slice_get (set xs i x) k ≡ slice_get xs k
slice_get-set_other [] i x k ne = refl
slice_get-set_other (y ∷ ys) zero x zero ne = absurd (ne refl)
slice_get-set_other (y ∷ ys) zero x (suc k) ne = refl
slice_get-set_other (y ∷ ys) (suc i) x zero ne = refl
slice_get-set_other (y ∷ ys) (suc i) x (suc k) ne = slice_get-set_other ys i x k (λ e. ne (ap suc e))

pub others_stay : OthersStay
unfolding lane_answer
others_stay = λ heard cursors command number ne. slice_get-set_other cursors (cursor_of command) (answer_among heard cursors command).1 number ne

pub opens_once : OpensOnce
unfolding lane_answer
opens_once = λ heard cursors c s there.
    let own : get_or cursors c None ≡ Some s = get_or_from_slice_get cursors c (Some s) None there in
    let same : set cursors c (Some s) ≡ cursors = ap (set cursors c) (sym own) ∙ set-get_or cursors c None in
    rw own (rw same refl)

pub crosses_itself : CrossesItself
unfolding lane_answer
crosses_itself = λ heard cursors c s there.
    let own : get_or cursors c None ≡ Some s = get_or_from_slice_get cursors c (Some s) None there in
    let same : set cursors c (Some s) ≡ cursors = ap (set cursors c) (sym own) ∙ set-get_or cursors c None in
    let itself : eqb c c ≡ true = eq-eqb c c refl in
    rw (itself, own) (rw same refl)

-- both cursors are open, so neither is closed
neither : (old own : LaneCursor) (s t : CursorState) → old ≡ Some s → own ≡ Some t → (old ≡ None) ⊎ (own ≡ None) → ⊥
neither old own s t e f closed = elim closed [ inl none ↦ cc | inr none ↦ cc ]

-- where one of two cursors is closed, a cross answers that there is no cursor, and the new one stays
closed_cross : (heard : Heard) (old new : LaneCursor) → (old ≡ None) ⊎ (new ≡ None) → cross_answer heard old new ≡ (answers.NoCursor, new)
closed_cross heard None new closed = refl
closed_cross heard (Some old) None closed = refl
closed_cross heard (Some old) (Some new) closed = absurd (neither (Some old) (Some new) old new refl refl closed)

closed_itself : (heard : Heard) (c d : ℕ) (old own : LaneCursor) → old ≡ own → (old ≡ None) ⊎ (own ≡ None) → cursor_answer heard (Cross c d) own ≡ (answers.NoCursor, own)
closed_itself heard c d old None e closed = refl
closed_itself heard c d old (Some s) e closed = absurd (neither old (Some s) s s e refl closed)

-- the same whether both are one cursor or not
closed_among : (heard : Heard) (cursors : List LaneCursor) (c d : ℕ) (b : Bool) → eqb c d ≡ b → (cursor_at cursors c ≡ None) ⊎ (cursor_at cursors d ≡ None)
    → cond b (cursor_answer heard (Cross c d) (cursor_at cursors d)) (cross_answer heard (cursor_at cursors c) (cursor_at cursors d)) ≡ (answers.NoCursor, cursor_at cursors d)
closed_among heard cursors c d true e closed = closed_itself heard c d (cursor_at cursors c) (cursor_at cursors d) (ap (cursor_at cursors) (eqb-true c d e)) closed
closed_among heard cursors c d false e closed = closed_cross heard (cursor_at cursors c) (cursor_at cursors d) closed

pub crosses_open_ones : CrossesOpenOnes
unfolding lane_answer
crosses_open_ones = λ heard cursors c d closed.
    let said : answer_among heard cursors (Cross c d) ≡ (answers.NoCursor, cursor_at cursors d) = closed_among heard cursors c d (eqb c d) refl closed in
    let answered : Answer × LaneCursor → Answer × List LaneCursor = λ r. (r.0, set cursors d r.1) in
    ap answered said ∙ ap (λ (all : List LaneCursor). let r : Answer × List LaneCursor = (answers.NoCursor, all) in r) (set-get_or cursors d None)
