use Rattle.std.proofs.Common.{◌<◌, ◌^◌, get_or}
use Rattle.model_bits.specs.Writing.{in_bits}
use Rattle.setup_fields.proofs.Puts.{first_place, item_places, one_more}
use Rattle.setup_fields.proofs.put_words.Goals as goal

pub put_number-requires-clause-fits : goal.put_number-requires-clause-fits
put_number-requires-clause-fits c =
    let l = c.loop-number in
    let here : get_or c.args.numbers.now l.number-index 0 < 2 ^ c.args.width =
    first_place (item_places (in_bits c.args.width) c.args.numbers.now l.number-index 0 c.loop-number-test.true c.requires.fits) in
    rw c.from.ensures here

pub loop-number-preserved : goal.loop-number-preserved
loop-number-preserved c =
    let l = c.loop-number in
    one_more (in_bits c.args.width) c.args.numbers.now l.number-index 0 c.loop-number-test.true l.invariant (rw c.from.ensures at c.in_ok-put_number.ensures.put)
