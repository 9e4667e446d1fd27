use Rattle.model_line.proofs.IndexLaws.{spans_add_up}
use Rattle.model_line.proofs.laws.spans_add_up.Goals as goal

pub returns : goal.returns
returns c = spans_add_up
