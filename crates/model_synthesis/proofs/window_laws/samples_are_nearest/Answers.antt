use Rattle.model_synthesis.proofs.Nearest.{samples_are_nearest}
use Rattle.model_synthesis.proofs.window_laws.samples_are_nearest.Goals as goal

pub returns : goal.returns
returns c = samples_are_nearest
