use Rattle.model_line.proofs.KeptSteps.{length-kept_rows}
use Rattle.model_line.proofs.rows.Rows.len.Goals as goal

pub returns : goal.returns
returns c = rw (← c.self.view_is, length-kept_rows) (cc (c.len.ensures))
