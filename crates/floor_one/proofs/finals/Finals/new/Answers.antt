use Rattle.std.proofs.Common.{◌≡◌, ◌+◌, ◌<◌, ◌≤◌, ◌∷◌, [], length, get_or, arith, refl, ap, sym, ◌∙◌}
use Rattle.model_setup.specs.FloorCurve.{finals_up_to}
use Rattle.floor_one.proofs.Between.{low_below, high_above, two_behind, low_is, high_is, neighbours_count}
use Rattle.floor_one.proofs.FinalLists.{next_value, next_flags, finals_are, first_values, first_flags, first_small}
use Rattle.floor_one.proofs.finals.Finals.new.Goals as goal

pub push_next-requires-clause-neighbours : goal.push_next-requires-clause-neighbours
push_next-requires-clause-neighbours c =
    let xs = c.args.points.now in
    let are = c.neighbours-neighbours-items.ensures.value in
    let nearest = c.neighbours-neighbours-items.result.now in
    let same = c.x_values-x_values.ensures in
    let low = low_below xs nearest c.loop-i.i (c.loop-i.i + 2) _ are c.loop-i-test.true (omega arith) c.x_values-x_values.result.now (length c.loop-i.finals.items) same.points same.value c.loop-i.invariant.count in
    let high = high_above xs nearest c.loop-i.i (c.loop-i.i + 2) _ are c.loop-i-test.true (omega arith) c.x_values-x_values.result.now (length c.loop-i.finals.items) same.points same.value c.loop-i.invariant.count in
    record { low_before = low.before; high_before = high.before; below = low.below; above = high.above }

pub push_next-requires-clause-within : goal.push_next-requires-clause-within
push_next-requires-clause-within c =
    let n : c.loop-i.i + 2 < length c.args.points.now = two_behind c.args.points.now c.neighbours-neighbours-items.result.now c.loop-i.i c.neighbours-neighbours-items.ensures.value c.loop-i-test.true in
    let m = c.loop-i.invariant.count in
    rw c.x_values-x_values.ensures.value (omega arith)

pub bounds-values-i : goal.bounds-values-i
bounds-values-i c =
    let n : c.loop-i.i + 2 < length c.args.points.now = two_behind c.args.points.now c.neighbours-neighbours-items.result.now c.loop-i.i c.neighbours-neighbours-items.ensures.value c.loop-i-test.true in
    omega arith

pub offset_bounds-values-i : goal.offset_bounds-values-i
offset_bounds-values-i c =
    let n : c.loop-i.i + 2 < length c.args.points.now = two_behind c.args.points.now c.neighbours-neighbours-items.result.now c.loop-i.i c.neighbours-neighbours-items.ensures.value c.loop-i-test.true in
    omega arith

pub loop-i-init : goal.loop-i-init
loop-i-init c =
    let a = c.end_point.result in
    let b = c.end_point-2.result in
    let e : c.push-2.new.self.items ≡ a ∷ b ∷ [] = rw (c.push-2.ensures.items, c.push.ensures.items, c.new-finals.ensures) refl in
    let two = c.x_values-x_values.ensures.points.two in
    let enough : 2 ≤ length c.args.values.now = omega arith in
    let ys = c.args.values.now in
    let xs = c.args.points.now in
    rw e (record {
      count = refl;
      values = first_values c.args.range xs ys a b enough c.end_point.ensures.value c.end_point.ensures.flagged c.end_point-2.ensures.value c.end_point-2.ensures.flagged;
      flags = first_flags c.args.range xs ys a b enough c.end_point.ensures.value c.end_point.ensures.flagged c.end_point-2.ensures.value c.end_point-2.ensures.flagged;
      small = first_small c.args.range xs ys a b enough c.end_point.ensures.value c.end_point.ensures.flagged c.end_point-2.ensures.value c.end_point-2.ensures.flagged c.requires.small;
    })

pub loop-i-preserved : goal.loop-i-preserved
loop-i-preserved c =
    let i = c.loop-i.i in
    let xs = c.args.points.now in
    let ys = c.args.values.now in
    let nearest = c.neighbours-neighbours-items.result.now in
    let are = c.neighbours-neighbours-items.ensures.value in
    let points = c.x_values-x_values.ensures.points in
    let here = get_or nearest i (record { low = 0; high = 0 }) in
    let within = two_behind xs nearest i are c.loop-i-test.true in
    let low = low_is xs nearest i (i + 2) (record { low = 0; high = 0 }) are c.loop-i-test.true refl in
    let high = high_is xs nearest i (i + 2) (record { low = 0; high = 0 }) are c.loop-i-test.true refl in
    let y = get_or ys (i + 2) 0 in
    let before = c.loop-i.finals.items in
    let more = c.push_next.new.finals.items in
    let inv = c.loop-i.invariant in
    let next : i + 1 + 2 ≡ i + 2 + 1 = omega arith in
    record {
      count = c.push_next.ensures.next.count ∙ ap (λ n. n + 1) inv.count ∙ sym next;
      values = next_value c.args.range xs ys before more (i + 2) here.low here.high y points (omega arith) within inv.count low high refl c.x_values-x_values.result.now c.x_values-x_values.ensures.value inv.values c.push_next.ensures.next.values (i + 1 + 2) next;
      flags = next_flags c.args.range xs ys before more (i + 2) here.low here.high y points (omega arith) within inv.count low high refl inv.flags c.push_next.ensures.next.before c.push_next.ensures.next.flag (i + 1 + 2) next;
      small = c.push_next.ensures.small;
    }

pub returns-clause-finals : goal.returns-clause-finals
returns-clause-finals c =
    let xs = c.args.points.now in
    let n = neighbours_count xs c.neighbours-neighbours-items.result.now c.neighbours-neighbours-items.ensures.value in
    let two = c.x_values-x_values.ensures.points.two in
    let all : c.loop-i.i + 2 ≡ length xs = omega arith in
    let f = finals_are c.args.range xs c.args.values.now c.loop-i.finals.items (c.loop-i.i + 2) c.loop-i.invariant.count c.loop-i.invariant.values c.loop-i.invariant.flags in
    f ∙ ap (finals_up_to c.args.range xs c.args.values.now) all
