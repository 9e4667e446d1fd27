use Rattle.std.proofs.Common.{refl, Some}
use Rattle.model_player.specs.Commands as commands
use Rattle.model_player.specs.Courses.{in_parts, writes, comes_to, course_of}
use Rattle.model_film.specs.Dumps.{dump_of}
use Rattle.model_player.specs.Outcome.{MayComeTo, shelf_run, sink_run}
use Rattle.player_session.proofs.Puts.{Keeps-same}
use Rattle.player_session.proofs.Outcomes.{shown, stopped, StopsBy-weaker}
use Rattle.player_session.proofs.Readings.{lies_self}
use Rattle.player_session.proofs.dump.dump.Goals as goal

pub write_stop-requires : goal.write_stop-requires
write_stop-requires g c =
    let run = shelf_run g.F.Shelf.told g.F.Shelf.faults c.args.shelf.now c.read_reel.new.shelf in
    StopsBy-weaker (MayComeTo (course_of (Some (commands.dump c.args.constants.now c.args.film.now))) run) _ (λ duty due. tt) c.in-Err.stop (c.in-Err.ensures.course run (lies_self run) (λ tables links. comes_to (writes in_parts (dump_of tables links))))

pub returns-in-Ok : goal.returns-in-Ok
returns-in-Ok g c =
    let run = shelf_run g.F.Shelf.told g.F.Shelf.faults c.args.shelf.now c.read_reel.new.shelf in
    shown (course_of (Some (commands.dump c.args.constants.now c.args.film.now))) run _ _ in_parts (dump_of c.in-Ok.reel.constants c.in-Ok.reel.film.links) _
    (c.in-Ok.ensures.course run (lies_self run) (λ tables links. comes_to (writes in_parts (dump_of tables links))) (writes in_parts (dump_of c.in-Ok.reel.constants c.in-Ok.reel.film.links)) refl) c.write_dump.ensures

pub returns-in-Err : goal.returns-in-Err
returns-in-Err g c =
    let run = shelf_run g.F.Shelf.told g.F.Shelf.faults c.args.shelf.now c.read_reel.new.shelf in
    stopped (course_of (Some (commands.dump c.args.constants.now c.args.film.now))) run (sink_run g.K.Sink.written g.K.Sink.faults c.args.out.now c.args.out.now) _ c.in-Err.stop _
    (c.in-Err.ensures.course run (lies_self run) (λ tables links. comes_to (writes in_parts (dump_of tables links)))) (Keeps-same _) c.write_stop.ensures
