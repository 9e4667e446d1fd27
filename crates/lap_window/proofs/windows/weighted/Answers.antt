use Rattle.lap_window.proofs.Weights.{product_fits, weighted_small, computed, factors}
use Rattle.lap_window.proofs.windows.weighted.Goals as goal

pub overflow_mul-result : goal.overflow_mul-result
overflow_mul-result c =
    let h = c.requires in
    rw (c.from.ensures, factors c.args.value c.args.weight c.args.scale h.value h.scale h.weight)
    (product_fits c.args.value c.args.weight c.args.scale h.value h.scale h.weight)

pub returns-clause-value : goal.returns-clause-value
returns-clause-value c =
    let h = c.requires in
    rw c.from.ensures (computed c.args.value c.args.weight c.args.scale h.value h.scale h.weight)

pub returns-clause-small : goal.returns-clause-small
returns-clause-small c =
    let h = c.requires in
    rw (c.from.ensures, computed c.args.value c.args.weight c.args.scale h.value h.scale h.weight)
    (weighted_small c.args.value c.args.weight c.args.scale h.value h.scale h.weight)
