use Rattle.model_cursor.proofs.Mixing.{equal_sides_stay}
use Rattle.model_cursor.proofs.laws.equal_sides_stay.Goals as goal

pub returns : goal.returns
returns c = equal_sides_stay
