use Rattle.model_cursor.proofs.SpliceParts.{splices_fit_the_run}
use Rattle.model_cursor.proofs.laws.splices_fit_the_run.Goals as goal

pub returns : goal.returns
returns c = splices_fit_the_run
