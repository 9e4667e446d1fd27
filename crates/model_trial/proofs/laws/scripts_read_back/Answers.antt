use Rattle.model_trial.proofs.ScriptLines.{scripts_read_back}
use Rattle.model_trial.proofs.laws.scripts_read_back.Goals as goal

pub returns : goal.returns
returns c = scripts_read_back
