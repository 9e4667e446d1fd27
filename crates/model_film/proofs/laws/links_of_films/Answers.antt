use Rattle.model_film.proofs.Accepted.{links_of_films}
use Rattle.model_film.proofs.laws.links_of_films.Goals as goal

pub returns : goal.returns
returns c = links_of_films
