use Rattle.std.proofs.Common.{◌++◌, ◌∙◌, ap, List, Bool}
use Rattle.film_maker.proofs.DrawnLines.{on_ok}
use Rattle.film_maker.proofs.Tables.{added, books_are}
use Rattle.film_maker.proofs.made_setup.put_books.Goals as goal

pub returns : goal.returns
returns c =
    let old = c.args.out.now in
    let is1 = c.in_ok-put_fields.ensures in
    let is2 = added old _ _ _ _ is1 c.in_ok-put_fields-2.ensures in
    let is3 = added old _ _ _ _ is2 c.in_ok-put_fields-3.ensures in
    let is4 = added old _ _ _ _ is3 c.in_ok-put_fields-4.ensures in
    let is5 = added old _ _ _ _ is4 c.in_ok-put_fields-5.ensures in
    let is6 = added old _ _ _ _ is5 c.in_ok-put_fields-6.ensures in
    let is7 = added old _ _ _ _ is6 c.in_ok-put_fields-7.ensures in
    let is8 = added old _ _ _ _ is7 c.in_ok-put_fields-8.ensures in
    let is9 = added old _ _ _ _ is8 c.in_ok-put_fields-9.ensures in
    let is10 = added old _ _ _ _ is9 c.in_ok-put_fields-10.ensures in
    on_ok c.put_fields-11.result (λ e. added old _ _ _ _ is10 e ∙ ap (λ (bs : List Bool). old ++ bs) books_are) c.put_fields-11.ensures
