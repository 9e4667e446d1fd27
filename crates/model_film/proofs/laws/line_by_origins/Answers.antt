use Rattle.model_film.proofs.OriginLines.{line_by_origins}
use Rattle.model_film.proofs.laws.line_by_origins.Goals as goal

pub returns : goal.returns
returns c = line_by_origins
