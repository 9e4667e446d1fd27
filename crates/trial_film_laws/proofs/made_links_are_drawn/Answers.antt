use Rattle.trial_film_laws.proofs.Drawn.{made_links_are_drawn}
use Rattle.trial_film_laws.proofs.made_links_are_drawn.Goals as goal

pub returns : goal.returns
returns c = made_links_are_drawn
