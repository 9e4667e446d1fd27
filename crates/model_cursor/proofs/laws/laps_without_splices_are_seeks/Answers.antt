use Rattle.model_cursor.proofs.SpliceParts.{laps_without_splices_are_seeks}
use Rattle.model_cursor.proofs.laws.laps_without_splices_are_seeks.Goals as goal

pub returns : goal.returns
returns c = laps_without_splices_are_seeks
