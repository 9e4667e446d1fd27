use Rattle.std.proofs.lemmas.Result.{err_from_is_err_and}
use Rattle.model_line.specs.Acceptance.{film_of}
use Rattle.model_film.proofs.Accepted.{links_of_films}
use Rattle.model_player.specs.Courses.{judged, film_refusal, reads_film}
use Rattle.player_session.proofs.Readings.{judged_ok, judged_stop}
use Rattle.player_session.proofs.files.read_film.Goals as goal

pub returns-in_err-bytes-clause-course : goal.returns-in_err-bytes-clause-course
returns-in_err-bytes-clause-course g c =
    let p = err_from_is_err_and c.from_residual.result c.from_residual.ensures.1 in
    rw (p.1, p.2) (λ run is next. c.in_err-bytes.ensures.course run is (λ bytes. judged (film_of bytes) film_refusal next))

pub returns-in-Ok-clause-course : goal.returns-in-Ok-clause-course
returns-in-Ok-clause-course g c = λ run is next duty d.
    c.in_ok-bytes.ensures.course run is (λ bytes. judged (film_of bytes) film_refusal next) duty (judged_ok (film_of c.in_ok-bytes.bytes.items) film_refusal next run duty c.in-Ok.film.links c.in-Ok.ensures.film d)

pub returns-in-Ok-clause-links : goal.returns-in-Ok-clause-links
returns-in-Ok-clause-links g c = links_of_films c.in_ok-bytes.bytes.items c.in-Ok.film.links c.in-Ok.ensures.film

pub returns-in_default-clause-course : goal.returns-in_default-clause-course
returns-in_default-clause-course g c = λ run is next.
    judged_stop (film_of c.in_ok-bytes.bytes.items) film_refusal next (reads_film c.args.name.now next) run c.in-Err.fault c.refusal.result (c.in-Err.ensures.film c.in_default.not-Memory) (c.refusal.ensures _ c.fault_line.ensures.line)
    (c.in_ok-bytes.ensures.course run is (λ bytes. judged (film_of bytes) film_refusal next))
