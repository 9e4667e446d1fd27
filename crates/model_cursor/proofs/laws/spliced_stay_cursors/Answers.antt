use Rattle.model_cursor.proofs.SpliceParts.{spliced_stay_cursors}
use Rattle.model_cursor.proofs.laws.spliced_stay_cursors.Goals as goal

pub returns : goal.returns
returns c = spliced_stay_cursors
