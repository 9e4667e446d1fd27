use Rattle.model_trial.proofs.DrawnScripts.{made_scripts_are_accepted}
use Rattle.model_trial.proofs.laws.made_scripts_are_accepted.Goals as goal

pub returns : goal.returns
returns c = made_scripts_are_accepted
