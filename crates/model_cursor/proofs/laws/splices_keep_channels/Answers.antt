use Rattle.model_cursor.proofs.SpliceParts.{splices_keep_channels}
use Rattle.model_cursor.proofs.laws.splices_keep_channels.Goals as goal

pub returns : goal.returns
returns c = splices_keep_channels
