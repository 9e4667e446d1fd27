use Rattle.std.proofs.Common.{◌++◌, ◌∙◌, ap, List, Bool, arith}
use Rattle.film_maker.proofs.DrawnLines.{on_ok}
use Rattle.film_maker.proofs.Tables.{added, residue_is}
use Rattle.film_maker.proofs.made_setup.put_residue.Goals as goal

pub returns : goal.returns
returns c =
    let old = c.args.out.now in
    on_ok c.put_fields-2.result (λ e. added old _ _ _ _ c.in_ok-put_fields.ensures e ∙ ap (λ (bs : List Bool). old ++ bs) (residue_is c.args.channels _ (omega arith))) c.put_fields-2.ensures
