use Rattle.model_film.proofs.Accepted.{links_of_films}
use Rattle.test_play.proofs.halves.reel_of.Goals as goal

pub returns : goal.returns
returns c = record {
  right = c.in_ok-constants.ensures.right;
  accepted = links_of_films c.args.bytes.items c.in_ok-film.film.links c.in_ok-film.ensures.film;
  indexed = c.in_ok-film.ensures.index;
}
