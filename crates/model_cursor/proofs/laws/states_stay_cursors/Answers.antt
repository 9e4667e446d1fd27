use Rattle.model_cursor.proofs.ReadLaws.{states_stay_cursors}
use Rattle.model_cursor.proofs.laws.states_stay_cursors.Goals as goal

pub returns : goal.returns
returns c = states_stay_cursors
