use Rattle.model_trial.proofs.Setups.{one_channel, two_channels}
use Rattle.model_trial.proofs.laws.made_setups_are_read.Goals as goal

pub returns : goal.returns
returns c = (one_channel, two_channels)
