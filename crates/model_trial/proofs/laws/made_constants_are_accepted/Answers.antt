use Rattle.model_trial.proofs.Curves.{made_constants_are_accepted}
use Rattle.model_trial.proofs.laws.made_constants_are_accepted.Goals as goal

pub returns : goal.returns
returns c = made_constants_are_accepted
