use Rattle.model_cursor.proofs.Mixing.{mixed_lies_between}
use Rattle.model_cursor.proofs.laws.mixed_lies_between.Goals as goal

pub returns : goal.returns
returns c = mixed_lies_between
