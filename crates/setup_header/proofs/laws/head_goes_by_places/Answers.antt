use Rattle.setup_header.proofs.HeadPlaces.{head_goes_by_places}
use Rattle.setup_header.proofs.laws.head_goes_by_places.Goals as goal

pub returns : goal.returns
returns c = head_goes_by_places
