use Rattle.std.proofs.Common.{◌∙◌, length, sym, arith}
use Rattle.ogg_packets.proofs.PageSteps.{front_goes_on, front_found, front_all, segments-all}
use Rattle.ogg_packets.proofs.page.end_of_first.Goals as goal

pub returns-then-lace-lt255-clause-after : goal.returns-then-lace-lt255-clause-after
returns-then-lace-lt255-clause-after c = λ body. c.loop-i.invariant body ∙ front_found c.args.laces.now body c.loop-i.i c.loop-i-test.true c.if-lace-lt255.true

pub loop-i-preserved : goal.loop-i-preserved
loop-i-preserved c = λ body. c.loop-i.invariant body ∙ front_goes_on c.args.laces.now body c.loop-i.i c.loop-i-test.true c.if-lace-lt255.false

pub returns-clause-after : goal.returns-clause-after
returns-clause-after c = λ body. c.loop-i.invariant body ∙ front_all c.args.laces.now _ c.loop-i.i c.loop-i-test.false ∙ sym (segments-all c.args.laces.now _ (length c.args.laces.now) (omega arith))
