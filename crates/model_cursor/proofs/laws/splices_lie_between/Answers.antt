use Rattle.model_cursor.proofs.SpliceParts.{splices_lie_between}
use Rattle.model_cursor.proofs.laws.splices_lie_between.Goals as goal

pub returns : goal.returns
returns c = splices_lie_between
