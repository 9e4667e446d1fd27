use Rattle.player_session.proofs.TrialTexts.{tried_text}
use Rattle.player_session.proofs.trial.tried.Goals as goal

pub returns : goal.returns
returns g c =
    tried_text c.args.number c.in_ok-reel.reel.constants c.in_ok-reel.reel.film.links c.in_ok-script.script c.in_ok-report.report _ c.in_ok-reel.ensures.tables c.in_ok-reel.ensures.film c.in_ok-script.ensures c.in_ok-report.ensures c.in_ok-text.ensures
