use Rattle.model_film.proofs.LineCounts.{counts_agree}
use Rattle.model_film.proofs.laws.counts_agree.Goals as goal

pub returns : goal.returns
returns c = counts_agree
