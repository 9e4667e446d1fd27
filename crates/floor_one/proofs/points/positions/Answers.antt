use Rattle.std.proofs.Common.{◌++◌, ◌∷◌, [], ap, sym, ◌∙◌, length-append, arith}
use Rattle.std.proofs.lemmas.List.FromFn.{map-range_with_len_more}
use Rattle.floor_one.specs.Points.{position_at}
use Rattle.floor_one.proofs.points.positions.Goals as goal

pub loop-i-preserved : goal.loop-i-preserved
loop-i-preserved c =
    let xs = c.args.x_values.now in
    let i = c.loop-i.i in
    let n = c.loop-i.invariant.count in
    rw c.push.ensures.items (record {
      items = ap (λ ps. ps ++ position_at xs i ∷ []) c.loop-i.invariant.items ∙ sym (map-range_with_len_more (position_at xs) 0 i i (omega arith));
      count = simp length-append (omega arith);
    })
