use Rattle.cursor.proofs.MixSteps.{is_mixed}
use Rattle.cursor.proofs.mix.mixed.Goals as goal

pub overflow_add-sum : goal.overflow_add-sum
overflow_add-sum c = (is_mixed c.args.constants.now c.args.weight c.args.old c.args.new c.from.result c.from-2.result c.from-3.result c.from-4.result c.scale-scale.result c.ranges.old c.ranges.new c.requires c.scale-scale.ensures.value c.scale-scale.ensures.set c.from.ensures c.from-2.ensures c.from-3.ensures c.from-4.ensures).sum

pub overflow_cast-result-2 : goal.overflow_cast-result-2
overflow_cast-result-2 c = (is_mixed c.args.constants.now c.args.weight c.args.old c.args.new c.from.result c.from-2.result c.from-3.result c.from-4.result c.scale-scale.result c.ranges.old c.ranges.new c.requires c.scale-scale.ensures.value c.scale-scale.ensures.set c.from.ensures c.from-2.ensures c.from-3.ensures c.from-4.ensures).quotient

pub returns : goal.returns
returns c = (is_mixed c.args.constants.now c.args.weight c.args.old c.args.new c.from.result c.from-2.result c.from-3.result c.from-4.result c.scale-scale.result c.ranges.old c.ranges.new c.requires c.scale-scale.ensures.value c.scale-scale.ensures.set c.from.ensures c.from-2.ensures c.from-3.ensures c.from-4.ensures).value
