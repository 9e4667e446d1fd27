use Rattle.model_cursor.proofs.Places.{seeks_go_to_the_least_place}
use Rattle.model_cursor.proofs.laws.seeks_go_to_the_least_place.Goals as goal

pub returns : goal.returns
returns c = seeks_go_to_the_least_place
