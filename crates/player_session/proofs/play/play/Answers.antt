use Rattle.std.proofs.Common.{refl, Some}
use Rattle.std.specs.List.{concat}
use Rattle.model_player.specs.Courses.{in_parts, writes, course_of}
use Rattle.model_player.specs.Outcome.{MayComeTo, shelf_run, sink_run}
use Rattle.player_session.specs.Words.{play_named}
use Rattle.player_session.proofs.Puts.{Keeps-same}
use Rattle.player_session.proofs.Outcomes.{shown, stopped, StopsBy-weaker}
use Rattle.player_session.proofs.Readings.{lies_self}
use Rattle.player_session.proofs.play.play.Goals as goal

pub write_stop-requires : goal.write_stop-requires
write_stop-requires g c =
    let run = shelf_run g.F.Shelf.told g.F.Shelf.faults c.args.shelf.now c.played.new.shelf in
    StopsBy-weaker (MayComeTo (course_of (Some (play_named c.args.play))) run) _ (λ duty due. tt) c.in-Err.stop (c.in-Err.ensures.course run (lies_self run))

pub returns-in-Ok : goal.returns-in-Ok
returns-in-Ok g c =
    let run = shelf_run g.F.Shelf.told g.F.Shelf.faults c.args.shelf.now c.played.new.shelf in
    shown (course_of (Some (play_named c.args.play))) run _ _ in_parts (concat c.in-Ok.report) _
    (c.in-Ok.ensures.course run (lies_self run) (writes in_parts (concat c.in-Ok.report)) refl) c.write_report.ensures

pub returns-in-Err : goal.returns-in-Err
returns-in-Err g c =
    let run = shelf_run g.F.Shelf.told g.F.Shelf.faults c.args.shelf.now c.played.new.shelf in
    stopped (course_of (Some (play_named c.args.play))) run (sink_run g.K.Sink.written g.K.Sink.faults c.args.out.now c.args.out.now) _ c.in-Err.stop _
    (c.in-Err.ensures.course run (lies_self run)) (Keeps-same _) c.write_stop.ensures
