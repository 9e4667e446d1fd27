use Rattle.trial_film_laws.proofs.Accepted.{made_films_are_accepted}
use Rattle.trial_film_laws.proofs.made_films_are_accepted.Goals as goal

pub returns : goal.returns
returns c = made_films_are_accepted
