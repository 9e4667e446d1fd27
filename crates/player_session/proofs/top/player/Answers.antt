use Rattle.std.proofs.Common.{Some}
use Rattle.player_session.specs.Words.{play_named}
use Rattle.player_session.proofs.Complete.{runs, runs_trial}
use Rattle.player_session.proofs.top.player.Goals as goal

pub returns-in-Some-Play : goal.returns-in-Some-Play
returns-in-Some-Play g c =
    let left = c.in_default.ensures in
    let played = rw (left.shelf_stays, left.out_stays, left.notes_stays) at c.play.ensures in
    rw (← c.in-Some-Play.ensures) (rw c.in-Some-Play.field-0-is (runs (Some (play_named c.in-Some-Play.named)) _ _ _ _ played))

pub returns-in-Some-Trial : goal.returns-in-Some-Trial
returns-in-Some-Trial g c =
    let left = c.in_default.ensures in
    let tried = rw (left.out_stays, left.notes_stays) at c.trial.ensures in
    rw (← c.in-Some-Trial.ensures) (rw c.in-Some-Trial.field-0-is (runs_trial c.in-Some-Trial.number c.in-Some-Trial.counts _ _ _ _ tried))
