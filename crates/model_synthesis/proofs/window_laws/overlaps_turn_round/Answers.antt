use Rattle.model_synthesis.proofs.Overlapping.{overlaps_turn_round}
use Rattle.model_synthesis.proofs.window_laws.overlaps_turn_round.Goals as goal

pub returns : goal.returns
returns c = overlaps_turn_round
