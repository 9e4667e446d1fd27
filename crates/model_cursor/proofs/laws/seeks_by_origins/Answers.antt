use Rattle.model_cursor.proofs.Shapes.{seeks_by_origins}
use Rattle.model_cursor.proofs.laws.seeks_by_origins.Goals as goal

pub returns : goal.returns
returns c = seeks_by_origins
