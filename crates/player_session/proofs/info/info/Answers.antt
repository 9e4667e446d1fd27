use Rattle.std.proofs.Common.{refl, Some}
use Rattle.model_player.specs.Commands.{info}
use Rattle.model_player.specs.Courses.{at_once, writes, comes_to, course_of}
use Rattle.model_player.specs.Texts.{info_text}
use Rattle.model_player.specs.Outcome.{MayComeTo, shelf_run, sink_run}
use Rattle.player_session.proofs.Puts.{Keeps-same}
use Rattle.player_session.proofs.Outcomes.{shown, stopped, StopsBy-weaker}
use Rattle.player_session.proofs.Readings.{lies_self}
use Rattle.player_session.proofs.info.info.Goals as goal

pub write_stop-requires : goal.write_stop-requires
write_stop-requires g c =
    let run = shelf_run g.F.Shelf.told g.F.Shelf.faults c.args.shelf.now c.read_film.new.shelf in
    StopsBy-weaker (MayComeTo (course_of (Some (info c.args.name.now))) run) _ (λ duty due. tt) c.in-Err.stop (c.in-Err.ensures.course run (lies_self run) (λ links. comes_to (writes at_once (info_text links))))

pub returns-in-Ok : goal.returns-in-Ok
returns-in-Ok g c =
    let run = shelf_run g.F.Shelf.told g.F.Shelf.faults c.args.shelf.now c.read_film.new.shelf in
    shown (course_of (Some (info c.args.name.now))) run _ _ at_once (info_text c.in-Ok.film.links) _
    (c.in-Ok.ensures.course run (lies_self run) (λ links. comes_to (writes at_once (info_text links))) (writes at_once (info_text c.in-Ok.film.links)) refl) c.write_info.ensures

pub returns-in-Err : goal.returns-in-Err
returns-in-Err g c =
    let run = shelf_run g.F.Shelf.told g.F.Shelf.faults c.args.shelf.now c.read_film.new.shelf in
    stopped (course_of (Some (info c.args.name.now))) run (sink_run g.K.Sink.written g.K.Sink.faults c.args.out.now c.args.out.now) _ c.in-Err.stop _
    (c.in-Err.ensures.course run (lies_self run) (λ links. comes_to (writes at_once (info_text links)))) (Keeps-same _) c.write_stop.ensures
