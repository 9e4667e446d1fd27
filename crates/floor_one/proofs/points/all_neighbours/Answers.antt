use Rattle.std.proofs.Common.{◌≡◌, ◌-◌, ◌+◌, refl, length-append, arith}
use Rattle.std.proofs.lemmas.List.FromFn.{map-range_with_len_more}
use Rattle.floor_one.proofs.NearSoFar.{neighbours_same}
use Rattle.floor_one.specs.Points.{neighbours_at}
use Rattle.floor_one.proofs.points.all_neighbours.Goals as goal

pub loop-i-preserved : goal.loop-i-preserved
loop-i-preserved c =
    let xs = c.args.x_values.now in
    let i = c.loop-i.i in
    let n = c.loop-i.invariant.count in
    let found = c.find_neighbours.result in
    let same : found ≡ neighbours_at xs i = neighbours_same found _ _ c.find_neighbours.ensures.low c.find_neighbours.ensures.high in
    let more = map-range_with_len_more (neighbours_at xs) 2 (i - 2) i (omega arith) in
    let counted : i + 1 - 2 ≡ i - 2 + 1 = omega arith in
    rw c.push.ensures.items (record {
      items = rw (counted, more, c.loop-i.invariant.items, same) refl;
      count = simp length-append (omega arith);
    })
