use Rattle.model_line.proofs.BlockLines.{line_by_index}
use Rattle.model_line.proofs.laws.line_by_index.Goals as goal

pub returns : goal.returns
returns c = line_by_index
