use Rattle.std.proofs.Common.{ℕ, List}
use Rattle.std.specs.List.{concat}
use Rattle.std.proofs.lemmas.Result.{err_from_is_err_and}
use Rattle.model_synthesis.specs.Tables.{ConstantTables}
use Rattle.model_line.specs.Acceptance.{FilmLink}
use Rattle.model_report.specs.Reports.{report_of}
use Rattle.model_player.specs.Courses.{Course, in_parts, writes, comes_to, reads_script}
use Rattle.model_player.specs.Outcome.{MayComeTo}
use Rattle.player_session.proofs.Outcomes.{StopsBy-weaker}
use Rattle.player_session.proofs.Readings.{first_within, second_within}
use Rattle.player_session.proofs.Reports.{report_some}
use Rattle.player_session.proofs.play.played.Goals as goal

-- once constants and film are read
then : List ℕ → ConstantTables → List FilmLink → Course
then script tables links = reads_script script (λ lanes. comes_to (writes in_parts (concat (report_of tables links lanes))))

pub returns-in_err-reel-clause-course : goal.returns-in_err-reel-clause-course
unfolding then
returns-in_err-reel-clause-course g c =
    let p = err_from_is_err_and c.from_residual.result c.from_residual.ensures.1 in
    rw (p.1, p.2) (λ run is. c.in_err-reel.ensures.course run is (then c.args.play.script.now))

pub returns-in_err-script-clause-course : goal.returns-in_err-script-clause-course
unfolding then
returns-in_err-script-clause-course g c =
    let p = err_from_is_err_and c.from_residual-in_err-script.result c.from_residual-in_err-script.ensures.1 in
    rw (p.1, p.2) (λ run is.
    let first = first_within g.F.Shelf.told g.F.Shelf.faults run c.args.shelf.now c.read_reel.new.shelf c.read_script.new.shelf is c.in_err-script.ensures.later in
    let second = second_within g.F.Shelf.told g.F.Shelf.faults run c.args.shelf.now c.read_reel.new.shelf c.read_script.new.shelf is c.in_ok-reel.ensures.later c.in_ok-reel.ensures.unchanged in
    StopsBy-weaker (MayComeTo (then c.args.play.script.now c.in_ok-reel.reel.constants c.in_ok-reel.reel.film.links) run) _
    (c.in_ok-reel.ensures.course run first (then c.args.play.script.now)) _
    (c.in_err-script.ensures.course run second (λ lanes. comes_to (writes in_parts (concat (report_of c.in_ok-reel.reel.constants c.in_ok-reel.reel.film.links lanes))))))

pub returns-clause-course : goal.returns-clause-course
unfolding then
returns-clause-course g c = λ run is duty d.
    let first = first_within g.F.Shelf.told g.F.Shelf.faults run c.args.shelf.now c.read_reel.new.shelf c.read_script.new.shelf is c.in_ok-script.ensures.later in
    let second = second_within g.F.Shelf.told g.F.Shelf.faults run c.args.shelf.now c.read_reel.new.shelf c.read_script.new.shelf is c.in_ok-reel.ensures.later c.in_ok-reel.ensures.unchanged in
    let due = rw c.in_ok-report.ensures at d in
    c.in_ok-reel.ensures.course run first (then c.args.play.script.now) duty
    (c.in_ok-script.ensures.course run second (λ lanes. comes_to (writes in_parts (concat (report_of c.in_ok-reel.reel.constants c.in_ok-reel.reel.film.links lanes)))) duty due)

pub returns-clause-some : goal.returns-clause-some
returns-clause-some g c = rw c.in_ok-report.ensures (report_some _ _ _)
