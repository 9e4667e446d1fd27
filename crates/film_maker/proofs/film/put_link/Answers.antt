use Rattle.film_maker.specs.Drawn.{drawn_link_of}
use Rattle.film_maker.proofs.DrawnLines.{on_ok}
use Rattle.film_maker.proofs.FilmLinks.{link_written}
use Rattle.film_maker.proofs.film.put_link.Goals as goal

pub returns : goal.returns
returns c =
    on_ok c.put_audio.result (λ e. link_written (drawn_link_of c.args.drawn.now) c.args.film.now.items c.put_headers.new.film.items c.put_audio.new.film.items c.in_ok-put_headers.ensures e) c.put_audio.ensures
