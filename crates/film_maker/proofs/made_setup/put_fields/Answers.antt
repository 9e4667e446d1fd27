use Rattle.film_maker.proofs.Tables.{one_field, no_fields}
use Rattle.film_maker.proofs.made_setup.put_fields.Goals as goal

pub loop-number-init : goal.loop-number-init
loop-number-init c = no_fields c.args.out.now

pub loop-number-preserved : goal.loop-number-preserved
loop-number-preserved c =
    one_field c.args.fields.now c.loop-number.number-index (0, 0) c.loop-number.out c.put.new.self c.args.out.now c.loop-number-test.true c.loop-number.invariant c.in_ok-put.ensures.put
