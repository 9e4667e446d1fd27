use Rattle.model_synthesis.proofs.WindowParts.{windows_meet}
use Rattle.model_synthesis.proofs.window_laws.windows_meet.Goals as goal

pub returns : goal.returns
returns c = windows_meet
