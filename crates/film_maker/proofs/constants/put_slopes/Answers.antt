use Rattle.std.proofs.Common.{arith}
use Rattle.film_maker.proofs.Numbers.{tables_more, all_slopes, sizes_are_small}
use Rattle.film_maker.proofs.constants.put_slopes.Goals as goal

pub put_slope-requires : goal.put_slope-requires
put_slope-requires c = sizes_are_small c.loop-size.size-index

pub loop-size-preserved : goal.loop-size-preserved
loop-size-preserved c =
    tables_more c.loop-size.bytes.items c.put_slope.new.bytes.items c.args.bytes.now.items c.loop-size.size-index (omega arith)
    c.loop-size.invariant c.in_ok-put_slope.ensures

pub returns : goal.returns
returns c = all_slopes c.loop-size.bytes.items c.args.bytes.now.items c.loop-size.size-index (omega arith) c.loop-size.invariant
