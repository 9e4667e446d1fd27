use Rattle.std.proofs.Common.{◌≡◌, drop}
use Rattle.model_trial.specs.MadeFilm.{made_links, made_film}
use Rattle.film_maker.proofs.FilmLinks.{with_links}
use Rattle.film_maker.proofs.film.make_film.Given as goal

abbrev pub invariant-loop-link : goal.invariant-loop-link
invariant-loop-link l = with_links l.film.items (drop l.link-index made_links) l.numbers ≡ made_film l.number
