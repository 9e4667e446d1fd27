use Rattle.model_line.proofs.IndexLaws.{gaps_are_missing}
use Rattle.model_line.proofs.laws.gaps_are_missing.Goals as goal

pub returns : goal.returns
returns c = gaps_are_missing
