use Rattle.model_cursor.proofs.ReadLaws.{reads_go_on}
use Rattle.model_cursor.proofs.laws.reads_go_on.Goals as goal

pub returns : goal.returns
returns c = reads_go_on
