use Rattle.std.proofs.Common.{◌∙◌, arith}
use Rattle.film_maker.specs.Drawn.{drawn_link_of}
use Rattle.film_maker.proofs.Paging.{one_page, all_pages}
use Rattle.film_maker.proofs.pages.put_audio.Goals as goal

pub loop-page-preserved : goal.loop-page-preserved
loop-page-preserved c =
    one_page (drawn_link_of c.args.drawn.now) c.loop-page.film.items c.put_audio_page.new.film.items c.args.film.now.items c.loop-page.page c.loop-page.invariant c.in_ok-put_audio_page.ensures

pub returns : goal.returns
returns c = c.loop-page.invariant ∙ all_pages (drawn_link_of c.args.drawn.now) c.args.film.now.items c.loop-page.page (omega arith)
