use Rattle.std.proofs.Common.{◌++◌, ◌∙◌, ap, List, Bool}
use Rattle.film_maker.proofs.DrawnLines.{on_ok}
use Rattle.film_maker.proofs.Tables.{added, setup_is}
use Rattle.film_maker.proofs.made_setup.put_setup.Goals as goal

pub returns : goal.returns
returns c =
    let old = c.args.out.now in
    let is1 = c.in_ok-put_books.ensures in
    let is2 = added old _ _ _ _ is1 c.in_ok-put_fields.ensures in
    let is3 = added old _ _ _ _ is2 c.in_ok-put_fields-2.ensures in
    let is4 = added old _ _ _ _ is3 c.in_ok-put_residue.ensures in
    let is5 = added old _ _ _ _ is4 c.in_ok-put_mapping.ensures in
    on_ok c.put_fields-3.result (λ e. added old _ _ _ _ is5 e ∙ ap (λ (bs : List Bool). old ++ bs) (setup_is c.args.channels c.requires.some c.requires.few)) c.put_fields-3.ensures
