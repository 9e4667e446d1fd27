use Rattle.floor_one.proofs.Heights.{falls, rises, falls_small, rises_small}
use Rattle.floor_one.proofs.finals.render_point.Goals as goal

pub returns-then-y1-y0-clause-value : goal.returns-then-y1-y0-clause-value
returns-then-y1-y0-clause-value c =
    falls c.args.x0 c.args.y0 c.args.x1 c.args.y1 c.args.x c.unsigned_abs.result c.from.result c.from-2.result c.requires.low c.requires.high c.requires.behind c.requires.before c.unsigned_abs.ensures.value c.from.ensures c.from-2.ensures c.if-y1-y0.true

pub returns-then-y1-y0-clause-small : goal.returns-then-y1-y0-clause-small
returns-then-y1-y0-clause-small c =
    falls_small c.args.x0 c.args.y0 c.args.x1 c.args.y1 c.args.x c.unsigned_abs.result c.from.result c.from-2.result c.requires.low c.requires.high c.requires.behind c.requires.before c.unsigned_abs.ensures.value c.from.ensures c.from-2.ensures c.if-y1-y0.true

pub returns-else-y1-y0-clause-value : goal.returns-else-y1-y0-clause-value
returns-else-y1-y0-clause-value c =
    rises c.args.x0 c.args.y0 c.args.x1 c.args.y1 c.args.x c.unsigned_abs.result c.from.result c.from-2.result c.requires.low c.requires.high c.requires.behind c.requires.before c.unsigned_abs.ensures.value c.from.ensures c.from-2.ensures c.if-y1-y0.false

pub returns-else-y1-y0-clause-small : goal.returns-else-y1-y0-clause-small
returns-else-y1-y0-clause-small c =
    rises_small c.args.x0 c.args.y0 c.args.x1 c.args.y1 c.args.x c.unsigned_abs.result c.from.result c.from-2.result c.requires.low c.requires.high c.requires.behind c.requires.before c.unsigned_abs.ensures.value c.from.ensures c.from-2.ensures c.if-y1-y0.false
