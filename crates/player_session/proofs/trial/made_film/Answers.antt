use Rattle.std.proofs.Common.{◌≡◌, ℕ, List, length, ap, arith}
use Rattle.model_trial.specs.MadeFilm.{made_film}
use Rattle.model_film.proofs.Accepted.{links_of_films}
use Rattle.player_session.proofs.MadeSizes.{film_is_short}
use Rattle.player_session.proofs.trial.made_film.Goals as goal

pub open-requires : goal.open-requires
open-requires c =
    let size : length c.in_ok-bytes.bytes.items ≡ length (made_film c.args.number) = ap (λ (bytes : List ℕ). length bytes) c.in_ok-bytes.ensures.made in
    omega (arith, size, film_is_short c.args.number)

pub returns-in-Ok-clause-links : goal.returns-in-Ok-clause-links
returns-in-Ok-clause-links c = links_of_films c.in_ok-bytes.bytes.items c.in-Ok.film.links c.in-Ok.ensures.film
