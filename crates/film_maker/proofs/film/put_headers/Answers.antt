use Rattle.film_maker.specs.Drawn.{made_link_of}
use Rattle.film_maker.proofs.FilmLinks.{ident_laces, header_laces}
use Rattle.film_maker.proofs.film.put_headers.Goals as goal

pub put_page-requires-clause-laces : goal.put_page-requires-clause-laces
put_page-requires-clause-laces c = ident_laces (made_link_of c.args.link.now) c.in_ok-ident.ident c.in_ok-ident.ensures

pub put_page-requires-2-clause-laces : goal.put_page-requires-2-clause-laces
put_page-requires-2-clause-laces c =
    header_laces (made_link_of c.args.link.now) c.in_ok-comment.comment c.in_ok-setup.setup c.requires.some c.requires.few c.in_ok-comment.ensures c.in_ok-setup.ensures
