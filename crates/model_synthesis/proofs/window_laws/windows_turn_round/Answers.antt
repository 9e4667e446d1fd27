use Rattle.model_synthesis.proofs.WindowParts.{windows_turn_round}
use Rattle.model_synthesis.proofs.window_laws.windows_turn_round.Goals as goal

pub returns : goal.returns
returns c = windows_turn_round
