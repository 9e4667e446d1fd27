use Rattle.model_synthesis.proofs.WindowParts.{windows_are_small}
use Rattle.model_synthesis.proofs.window_laws.windows_are_small.Goals as goal

pub returns : goal.returns
returns c = windows_are_small
