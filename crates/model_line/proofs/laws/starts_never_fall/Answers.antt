use Rattle.model_line.proofs.IndexLaws.{starts_never_fall}
use Rattle.model_line.proofs.laws.starts_never_fall.Goals as goal

pub returns : goal.returns
returns c = starts_never_fall
