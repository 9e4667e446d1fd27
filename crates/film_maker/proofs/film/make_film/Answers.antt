use Rattle.std.proofs.Common.{◌∙◌, List, ℕ, ap, drop, arith}
use Rattle.model_line.specs.Acceptance.{film_of}
use Rattle.trial_film_laws.proofs.Accepted.{made_films_are_accepted}
use Rattle.model_trial.specs.MadeFilm.{made_links}
use Rattle.film_maker.specs.Drawn.{drawn_link_of}
use Rattle.film_maker.proofs.FilmLinks.{with_links, one_link_more, no_links_yet, all_links, channels_at}
use Rattle.film_maker.proofs.film.make_film.Goals as goal

pub put_link-requires-clause-some : goal.put_link-requires-clause-some
put_link-requires-clause-some c = (channels_at c.loop-link.link-index _ _ (omega arith) c.in_ok-drawn.ensures.link).0

pub put_link-requires-clause-few : goal.put_link-requires-clause-few
put_link-requires-clause-few c = (channels_at c.loop-link.link-index _ _ (omega arith) c.in_ok-drawn.ensures.link).1

pub loop-link-init : goal.loop-link-init
loop-link-init c =
    ap (λ (bs : List ℕ). with_links bs (drop 0 made_links) c.new-numbers.result) c.new-film.ensures.items
    ∙ no_links_yet c.args.number c.new-numbers.result c.new-numbers.ensures

pub loop-link-preserved : goal.loop-link-preserved
loop-link-preserved c =
    one_link_more c.loop-link.link-index _ c.loop-link.film.items c.put_link.new.film.items (drawn_link_of c.in_ok-drawn.drawn) c.loop-link.numbers c.draw_link.new.numbers (omega arith)
    c.in_ok-drawn.ensures.drawn c.in_ok-put_link.ensures
    ∙ c.loop-link.invariant

pub returns-clause-made : goal.returns-clause-made
returns-clause-made c = all_links c.loop-link.link-index c.loop-link.film.items c.loop-link.numbers (omega arith) ∙ c.loop-link.invariant

pub returns-clause-accepted : goal.returns-clause-accepted
returns-clause-accepted c =
    ap film_of (all_links c.loop-link.link-index c.loop-link.film.items c.loop-link.numbers (omega arith) ∙ c.loop-link.invariant)
    ∙ made_films_are_accepted c.args.number
