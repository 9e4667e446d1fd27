use Rattle.std.proofs.lemmas.Result.{err_from_is_err_and}
use Rattle.model_player.specs.Courses.{reads_film}
use Rattle.model_player.specs.Outcome.{MayComeTo}
use Rattle.player_session.proofs.Outcomes.{StopsBy-weaker}
use Rattle.player_session.proofs.Readings.{first_within, second_within}
use Rattle.player_session.proofs.files.read_reel.Goals as goal

pub returns-in_err-constants-clause-course : goal.returns-in_err-constants-clause-course
returns-in_err-constants-clause-course g c =
    let p = err_from_is_err_and c.from_residual.result c.from_residual.ensures.1 in
    rw (p.1, p.2) (λ run is next. c.in_err-constants.ensures.course run is (λ tables. reads_film c.args.film.now (next tables)))

pub returns-in_err-film-clause-course : goal.returns-in_err-film-clause-course
returns-in_err-film-clause-course g c =
    let p = err_from_is_err_and c.from_residual-in_err-film.result c.from_residual-in_err-film.ensures.1 in
    rw (p.1, p.2) (λ run is next.
    let first = first_within g.F.Shelf.told g.F.Shelf.faults run c.args.shelf.now c.read_constants.new.shelf c.read_film.new.shelf is c.in_err-film.ensures.later in
    let second = second_within g.F.Shelf.told g.F.Shelf.faults run c.args.shelf.now c.read_constants.new.shelf c.read_film.new.shelf is c.in_ok-constants.ensures.later c.in_ok-constants.ensures.unchanged in
    StopsBy-weaker (MayComeTo (reads_film c.args.film.now (next c.in_ok-constants.constants)) run) _
    (c.in_ok-constants.ensures.course run first (λ tables. reads_film c.args.film.now (next tables))) _
    (c.in_err-film.ensures.course run second (next c.in_ok-constants.constants)))

pub returns-clause-course : goal.returns-clause-course
returns-clause-course g c = λ run is next duty d.
    let first = first_within g.F.Shelf.told g.F.Shelf.faults run c.args.shelf.now c.read_constants.new.shelf c.read_film.new.shelf is c.in_ok-film.ensures.later in
    let second = second_within g.F.Shelf.told g.F.Shelf.faults run c.args.shelf.now c.read_constants.new.shelf c.read_film.new.shelf is c.in_ok-constants.ensures.later c.in_ok-constants.ensures.unchanged in
    c.in_ok-constants.ensures.course run first (λ tables. reads_film c.args.film.now (next tables)) duty
    (c.in_ok-film.ensures.course run second (next c.in_ok-constants.constants) duty d)
