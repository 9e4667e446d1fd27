use Rattle.model_synthesis.proofs.Halves.{second_of_first}
use Rattle.model_synthesis.proofs.laws.second_quarter_turns_first.Goals as goal

pub returns : goal.returns
returns c tables size spectrum i j is e = second_of_first tables size spectrum i j is e
