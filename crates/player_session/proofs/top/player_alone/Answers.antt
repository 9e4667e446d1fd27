use Rattle.std.proofs.Common.{refl, None, Some}
use Rattle.model_player.specs.declared.status.Status.TheVariants as statuses
use Rattle.model_player.specs.Commands.{info, dump}
use Rattle.model_player.specs.Courses.{course_of}
use Rattle.model_player.specs.Texts.{usage_line}
use Rattle.model_player.specs.Outcome.{shelf_run, sink_run}
use Rattle.player_session.proofs.Puts.{Keeps-same}
use Rattle.player_session.proofs.Outcomes.{refused}
use Rattle.player_session.proofs.Complete.{runs}
use Rattle.player_session.proofs.top.player_alone.Goals as goal

pub returns-in-Some-Info : goal.returns-in-Some-Info
returns-in-Some-Info g c = rw (← c.in-Some-Info.ensures) (rw c.in-Some-Info.field-0-is record {
  alone = λ play. play;
  runs = runs (Some (info c.in-Some-Info.film.now)) _ _ _ _ c.info-status.ensures;
})

pub returns-in-Some-Dump : goal.returns-in-Some-Dump
returns-in-Some-Dump g c =
    rw (← c.in-Some-Dump.ensures)
    (rw c.in-Some-Dump.field-0-is record {
      alone = λ play. play;
      runs = runs (Some (dump c.in-Some-Dump.constants.now c.in-Some-Dump.film.now)) _ _ _ _ c.dump-status.ensures;
    })

pub returns-in-None : goal.returns-in-None
returns-in-None g c =
    rw (← c.in-None.ensures) record {
      alone = λ play. play;
      runs = runs None _ _ _ _
          (refused (course_of None) (shelf_run g.F.Shelf.told g.F.Shelf.faults c.args.shelf.now c.args.shelf.now)
          (sink_run g.K.Sink.written g.K.Sink.faults c.args.out.now c.args.out.now) _ statuses.Usage usage_line _ tt refl (Keeps-same _) c.write_note-status.ensures);
    }
