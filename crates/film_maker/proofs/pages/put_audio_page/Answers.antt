use Rattle.std.proofs.Common.{◌*◌, arith, ◌∙◌}
use Rattle.std.proofs.lemmas.List.Elements.{All-same}
use Rattle.film_maker.specs.Drawn.{drawn_link_of, IsShort}
use Rattle.film_maker.proofs.DrawnLines.{on_ok}
use Rattle.film_maker.proofs.Paging.{laces_on_page, page_written}
use Rattle.film_maker.proofs.pages.put_audio_page.Goals as goal

pub put_page-requires-clause-laces : goal.put_page-requires-clause-laces
put_page-requires-clause-laces c =
    laces_on_page _ (10 * c.args.page) c.deref.result.now (omega arith)
    (All-same IsShort c.deref.result.now c.args.drawn.now.packets.items c.deref.ensures.value c.requires.whole.short)

pub returns : goal.returns
returns c =
    on_ok c.put_page.result (λ e. e ∙ page_written (drawn_link_of c.args.drawn.now) c.args.page _ c.audio_front.result c.deref.result.now c.args.film.now.items (omega arith) c.audio_front.ensures.front c.deref.ensures.value)
    c.put_page.ensures
