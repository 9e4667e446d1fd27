use Rattle.std.proofs.Common.{get_or, inl, inr, arith}
use Rattle.floor_one.proofs.NearSoFar.{low_takes, low_keeps, low_is, high_takes, high_keeps, high_is}
use Rattle.floor_one.proofs.points.find_neighbours.Goals as goal
use Rattle.floor_one.proofs.points.find_neighbours.Goals.{then-other-x+then-x_values-low, else-other-x, else-other-x-via-then-other-x+else-x_values-low, else-other-x-via-else-other-x, then-x-other+then-other-x_values, else-x-other, else-x-other-via-then-x-other+else-other-x_values, else-x-other-via-else-x-other}

pub returns-clause-low : goal.returns-clause-low
returns-clause-low c = low_is c.args.x_values.now c.args.i c.requires.points c.requires.behind c.requires.within c.loop-n.n c.loop-n.low (omega arith) c.loop-n.invariant.low

pub returns-clause-high : goal.returns-clause-high
returns-clause-high c = high_is c.args.x_values.now c.args.i c.requires.points c.requires.behind c.requires.within c.loop-n.n c.loop-n.high (omega arith) c.loop-n.invariant.high

pub loop-n-preserved : goal.loop-n-preserved
loop-n-preserved c =
    let xs = c.args.x_values.now in
    let x = get_or xs c.args.i 0 in
    let low = c.loop-n.invariant.low in
    let high = c.loop-n.invariant.high in
    record {
      low = elim c.if-other-x.branch [
        | then-other-x+then-x_values-low w ↦ rw w.low-is (low_takes xs x c.loop-n.n c.loop-n.low low w.if-other-x.true w.if-x_values-low.true)
        | else-other-x w ↦ rw w.low-is (low_keeps xs x c.loop-n.n c.loop-n.low low (elim w.else-other-x.branch [
          | else-other-x-via-then-other-x+else-x_values-low v ↦ inl v.if-x_values-low.false
          | else-other-x-via-else-other-x v ↦ inr v.if-other-x.false
        ]))
      ];
      high = elim c.if-x-other.branch [
        | then-x-other+then-other-x_values w ↦ rw w.high-is (high_takes xs x c.loop-n.n c.loop-n.high high w.if-x-other.true w.if-other-x_values.true)
        | else-x-other w ↦ rw w.high-is (high_keeps xs x c.loop-n.n c.loop-n.high high (elim w.else-x-other.branch [
          | else-x-other-via-then-x-other+else-other-x_values v ↦ inl v.if-other-x_values.false
          | else-x-other-via-else-x-other v ↦ inr v.if-x-other.false
        ]))
      ];
    }
