use Rattle.model_fixed.proofs.Rounding.{shift_rounds}
use Rattle.model_fixed.proofs.shift_rounds_down.Goals as goal

pub returns : goal.returns
returns c = shift_rounds
