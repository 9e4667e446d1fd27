use Rattle.trial_film_laws.proofs.Places.{made_pages_have_places}
use Rattle.trial_film_laws.proofs.made_pages_have_places.Goals as goal

pub returns : goal.returns
returns c = made_pages_have_places
