use Rattle.std.proofs.Common.{◌≡◌, ℕ, eqb, List, length, Err, sym, ◌∙◌, arith, rules, tests}
use Rattle.std.specs.List.{slice_split}
use Rattle.std.proofs.lemmas.List.{length_push, length-map}
use Rattle.std.specs.Borrow.{Bor}
use Rattle.std.proofs.lemmas.Iterator.Consumers.{YieldsList-at}
use Rattle.player_script.proofs.Splits.{turn_of, end_of}
use Rattle.std.proofs.lemmas.Iterator.Splits.{YieldsList-from_slice_split}
use Rattle.model_script.specs.Lines.{words_of}
use Rattle.player_script.specs.Steps.{worded}
use Rattle.player_script.proofs.ScriptSteps.{nothing_read, read_on, refused, read_all, words_in_turn, answers_fault}
use Rattle.player_script.proofs.script.read_lines.Goals as goal

pub loop-line-init : goal.loop-line-init
loop-line-init c =
    rw c.new-reading.ensures.frames (nothing_read (worded c.args.text.now) c.new-reading.result.lanes.items c.new-reading.ensures.lanes)

pub overflow_add-number : goal.overflow_add-number
overflow_add-number c =
    let text = c.args.text.now in
    let parts = slice_split (λ b. eqb b 10) text in
    let t = turn_of {v = λ (x : Bor (List ℕ)). x.now} {all = parts} c.loop-line.yielded _ c.loop-line.yielded_by (YieldsList-at c.into_iter-line-iterator.ensures.into_iter_gives (YieldsList-from_slice_split _ (λ b. eqb b 10) text c.split-line-items.ensures.rest c.split-line-items.ensures.done c.split-line-items.ensures.closure (λ x r q k. search (rules, tests)))) _ _ c.in-Some.line c.in-Some.is c.next.ensures.steps in
    let lines : length (worded text) ≡ length parts = length-map parts words_of in
    omega (arith, t.0, lines)

pub loop-line-preserved : goal.loop-line-preserved
loop-line-preserved c =
    let text = c.args.text.now in
    let parts = slice_split (λ b. eqb b 10) text in
    let t = turn_of {v = λ (x : Bor (List ℕ)). x.now} {all = parts} c.loop-line.yielded _ c.loop-line.yielded_by (YieldsList-at c.into_iter-line-iterator.ensures.into_iter_gives (YieldsList-from_slice_split _ (λ b. eqb b 10) text c.split-line-items.ensures.rest c.split-line-items.ensures.done c.split-line-items.ensures.closure (λ x r q k. search (rules, tests)))) _ _ c.in-Some.line c.in-Some.is c.next.ensures.steps in
    let line = c.in-Some.line.now in
    let here = words_in_turn parts (length c.loop-line.yielded) line t.0 t.1 in
    let read = c.in_ok-read.ensures in
    let says = read.says in
    rw (length_push c.loop-line.yielded c.in-Some.line) (read_on (worded text) (length c.loop-line.yielded) c.loop-line.number c.loop-line.reading.lanes.items c.loop-line.reading.frames (words_of line) says.0 c.read.new.self.lanes.items c.read.new.self.frames c.loop-line.invariant here read.read says.1 says.2 says.3 read.still read.most)

pub returns-in_err-read : goal.returns-in_err-read
returns-in_err-read c =
    let text = c.args.text.now in
    let parts = slice_split (λ b. eqb b 10) text in
    let t = turn_of {v = λ (x : Bor (List ℕ)). x.now} {all = parts} c.loop-line.yielded _ c.loop-line.yielded_by (YieldsList-at c.into_iter-line-iterator.ensures.into_iter_gives (YieldsList-from_slice_split _ (λ b. eqb b 10) text c.split-line-items.ensures.rest c.split-line-items.ensures.done c.split-line-items.ensures.closure (λ x r q k. search (rules, tests)))) _ _ c.in-Some.line c.in-Some.is c.next.ensures.steps in
    let line = c.in-Some.line.now in
    let here = words_in_turn parts (length c.loop-line.yielded) line t.0 t.1 in
    let fault = c.in_err-read.field-0.0 in
    let is : c.from_residual.result ≡ Err fault = first_of (search rules, cc, grind arith) in
    answers_fault (λ script. script) c.from_residual.result fault is (λ other. refused (worded text) (length c.loop-line.yielded) c.loop-line.number c.loop-line.reading.lanes.items c.loop-line.reading.frames (words_of line) fault c.loop-line.invariant here (c.in_err-read.ensures.read other))

pub returns : goal.returns
returns c =
    let text = c.args.text.now in
    let parts = slice_split (λ b. eqb b 10) text in
    let t = end_of {v = λ (x : Bor (List ℕ)). x.now} {all = parts} c.loop-line.yielded _ c.loop-line.yielded_by (YieldsList-at c.into_iter-line-iterator.ensures.into_iter_gives (YieldsList-from_slice_split _ (λ b. eqb b 10) text c.split-line-items.ensures.rest c.split-line-items.ensures.done c.split-line-items.ensures.closure (λ x r q k. search (rules, tests)))) _ _ c.in-None.is c.next.ensures.steps in
    let lines : length (worded text) ≡ length parts = length-map parts words_of in
    read_all (worded text) (length c.loop-line.yielded) c.loop-line.number c.loop-line.reading.lanes.items c.loop-line.reading.frames c.loop-line.invariant (t.1 ∙ sym lines)
