use Rattle.model_synthesis.proofs.WindowParts.{neighbours_share_a_slope}
use Rattle.model_synthesis.proofs.window_laws.neighbours_share_a_slope.Goals as goal

pub returns : goal.returns
returns c = neighbours_share_a_slope
