use Rattle.model_film.proofs.LineCounts.{facts_agree}
use Rattle.model_film.proofs.laws.facts_agree.Goals as goal

pub returns : goal.returns
returns c = facts_agree
