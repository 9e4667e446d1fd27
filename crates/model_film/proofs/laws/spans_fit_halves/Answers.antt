use Rattle.model_film.proofs.SpanHalves.{spans_fit_halves}
use Rattle.model_film.proofs.laws.spans_fit_halves.Goals as goal

pub returns : goal.returns
returns c = spans_fit_halves
