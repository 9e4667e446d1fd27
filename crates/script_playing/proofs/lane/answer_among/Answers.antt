use Rattle.std.proofs.Common.{◌≡◌, Some, get_or, sym, ap, ◌∙◌}
use Rattle.std.proofs.lemmas.Result.{IfOk-weaker}
use Rattle.model_report.specs.Reports.{heard_of}
use Rattle.script_playing.specs.Playing.{two_of}
use Rattle.script_playing.proofs.LaneSteps.{one_turn, two_turn}
use Rattle.script_playing.proofs.lane.answer_among.Goals as goal

pub returns-in-Some-clause-answer : goal.returns-in-Some-clause-answer
returns-in-Some-clause-answer c =
    let reel = c.args.reel.now in
    let two : two_of c.args.command ≡ Some (c.from.result, c.from-in-Some.result) = rw (c.from.ensures, c.from-in-Some.ensures) (sym c.two_of.ensures ∙ c.in-Some.is) in
    IfOk-weaker c.cross.result _ _
    (λ answer said. two_turn (heard_of reel.constants reel.film.links) reel.film.index.items c.args.cursors.now c.cross.new.cursors c.args.command c.from.result c.from-in-Some.result _ answer c.requires.right c.requires.count two said c.cross.ensures.others)
    c.cross.ensures.answer

pub returns-clause-answer : goal.returns-clause-answer
returns-clause-answer c =
    let reel = c.args.reel.now in
    IfOk-weaker c.answer.result _ _
    (λ answer said. one_turn (heard_of reel.constants reel.film.links) reel.film.index.items c.args.cursors.now c.args.command c.from-number.result (get_or c.args.cursors.now c.from-number.result c.index-cursors-number.result) c.answer.new.cursor answer c.requires.right c.requires.count (sym c.two_of.ensures ∙ c.in_default.is) (c.from-number.ensures ∙ c.cursor_of.ensures) (ap (get_or c.args.cursors.now c.from-number.result) c.index-cursors-number.is) said)
    c.answer.ensures.answer
