use Rattle.std.proofs.Common.{◌≡◌, ◌++◌, map}
use Rattle.std.specs.List.{range_with_len}
use Rattle.model_ogg.specs.Writing.{written_pages}
use Rattle.model_trial.specs.MadeFilm.{audio_page}
use Rattle.film_maker.specs.Drawn.{drawn_link_of}
use Rattle.film_maker.proofs.pages.put_audio.Given as goal

abbrev pub invariant-loop-page : goal.invariant-loop-page
invariant-loop-page l =
    l.film.items ≡ l.fn.film.items ++ written_pages (map (audio_page (drawn_link_of l.drawn)) (range_with_len 0 l.page))
