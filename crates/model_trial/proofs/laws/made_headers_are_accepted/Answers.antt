use Rattle.model_trial.proofs.Films.{made_headers_are_accepted}
use Rattle.model_trial.proofs.laws.made_headers_are_accepted.Goals as goal

pub returns : goal.returns
returns c = made_headers_are_accepted
