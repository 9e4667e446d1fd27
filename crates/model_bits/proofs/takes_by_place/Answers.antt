use Rattle.model_bits.proofs.ByPlace.{takes_by_place}
use Rattle.model_bits.proofs.takes_by_place.Goals as goal

pub returns : goal.returns
returns c = takes_by_place
