use Rattle.std.proofs.Common.{◌++◌, ◌∙◌, ap, List, Bool, arith}
use Rattle.film_maker.proofs.DrawnLines.{on_ok}
use Rattle.film_maker.proofs.Tables.{coupled_is, uncoupled_is}
use Rattle.film_maker.proofs.made_setup.put_mapping.Goals as goal

pub returns-then-channels-eq2 : goal.returns-then-channels-eq2
returns-then-channels-eq2 c =
    on_ok c.put_fields.result (λ e. e ∙ ap (λ (bs : List Bool). c.args.out.now ++ bs) (coupled_is c.args.channels c.if-channels-eq2.true)) c.put_fields.ensures

pub returns-else-channels-eq2 : goal.returns-else-channels-eq2
returns-else-channels-eq2 c =
    on_ok c.put_fields-else-channels-eq2.result (λ e. e ∙ ap (λ (bs : List Bool). c.args.out.now ++ bs) (uncoupled_is c.args.channels (omega arith))) c.put_fields-else-channels-eq2.ensures
