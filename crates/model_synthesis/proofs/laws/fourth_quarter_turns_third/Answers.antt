use Rattle.model_synthesis.proofs.Halves.{fourth_of_third}
use Rattle.model_synthesis.proofs.laws.fourth_quarter_turns_third.Goals as goal

pub returns : goal.returns
returns c tables size spectrum i j is e = fourth_of_third tables size spectrum i j is e
