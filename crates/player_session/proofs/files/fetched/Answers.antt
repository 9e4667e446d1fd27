use Rattle.std.proofs.Common.{refl}
use Rattle.model_player.specs.Texts.{cannot_read_line, too_long_line}
use Rattle.model_player.specs.Outcome.{shelf_run}
use Rattle.player_session.proofs.Readings.{fetch_failed, fetch_too_long}
use Rattle.player_session.proofs.files.fetched.Goals as goal

pub returns-in-Err-Failed-clause-course : goal.returns-in-Err-Failed-clause-course
returns-in-Err-Failed-clause-course g c = λ run is next.
    let cause = rw c.in-Err-Failed.field-0-is at c.in-Err-Failed.ensures.failed in
    fetch_failed run (shelf_run g.F.Shelf.told g.F.Shelf.faults c.args.shelf.now c.fetch.new.self) is c.args.name.now c.args.limit next _ (cause refl) (c.refusal.ensures (cannot_read_line c.args.name.now) c.cannot_read_line.ensures)

pub returns-in-Err-TooLong-clause-course : goal.returns-in-Err-TooLong-clause-course
returns-in-Err-TooLong-clause-course g c = λ run is next.
    let cause = rw c.in-Err-TooLong.field-0-is at c.in-Err-TooLong.ensures.too_long in
    fetch_too_long run (shelf_run g.F.Shelf.told g.F.Shelf.faults c.args.shelf.now c.fetch.new.self) is c.args.name.now c.args.limit next _ (cause refl) (c.refusal-in-Err-TooLong.ensures (too_long_line c.args.name.now c.args.limit) c.too_long_line-line.ensures)
