use Rattle.model_cursor.proofs.Mixing.{weights_are_parts}
use Rattle.model_cursor.proofs.laws.weights_are_parts.Goals as goal

pub returns : goal.returns
returns c = weights_are_parts
