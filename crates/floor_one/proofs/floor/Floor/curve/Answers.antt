use Rattle.std.proofs.Common.{◌≡◌, ◌≢◌, ◌≤◌, ◌<◌, ◌+◌, ◌-◌, ◌∷◌, length, take, drop, sym, ap, ◌∙◌, refl, arith, rules, inl, inr, get_or-set_other, w64, to_z, of_z}
use Rattle.std.proofs.lemmas.Bool.{cases_lt}
use Rattle.std.proofs.lemmas.List.FromFn.{fill_by_all}
use Rattle.std.proofs.lemmas.Grind.{get_or-set_at}
use Rattle.floor_one.specs.declared.points.Position.{Position}
use Rattle.model_setup.specs.FloorCurve.{decibel_number}
use Rattle.std.proofs.lemmas.Int.{to_z-of_z, fits_signed_from_abs}
use Rattle.model_setup.specs.declared.floor.Final.{Final}
use Rattle.floor_one.proofs.Walked.{position_at, no_place, is_place, rises, ordered_rest, some_order, place_next, final_is, height_is, drawn_first, drawn_past, drawn_to, drawn_behind}
use Rattle.floor_one.proofs.floor.Floor.curve.Goals as goal
use Rattle.floor_one.proofs.floor.Floor.curve.Goals.{then-point, else-point}

pub bounds-finals-0 : goal.bounds-finals-0
bounds-finals-0 c = omega (arith, c.requires.count, ap length c.items-finals.ensures, c.points.ensures.points.two)

pub slice_bounds-position-items-count : goal.slice_bounds-position-items-count
slice_bounds-position-items-count c = some_order _ _ _ c.order-order.ensures.order c.points.ensures.value c.points.ensures.points

pub slice_bounds-position-items-start : goal.slice_bounds-position-items-start
slice_bounds-position-items-start c =
    let some : 1 ≤ length c.order-order.result.now = some_order _ _ _ c.order-order.ensures.order c.points.ensures.value c.points.ensures.points in
    search rules

pub loop-position-init : goal.loop-position-init
loop-position-init c =
    drawn_first c.args.self.now c.args.finals.now _ _ _ _ c.points.ensures.points
    (ordered_rest _ _ _ c.order-order.ensures.order c.points.ensures.value c.points.ensures.points)
    c.requires c.corner_at-corner.ensures.x
    (c.corner_at-corner.ensures.y ∙ height_is c.args.self.now c.args.finals.now _ 0 0 _ c.items-finals.ensures refl c.multiplier-multiplier.ensures.value)
    c.corner_at-corner.ensures.small

pub bounds-finals-from : goal.bounds-finals-from
bounds-finals-from c =
    let next = place_next no_place (take (length c.order-order.result.now - 1) (drop 1 c.order-order.result.now)) c.loop-position.position-index in
    let position = is_place c.args.self.now.x_values _ c.loop-position.invariant.ordered (c.loop-position.position-index + 1) (omega arith) in
    omega (arith, position.within, ap (λ (p : Position). p.number) next, c.from.ensures, c.requires.count, ap length c.items-finals.ensures)

pub draw-requires-clause-order : goal.draw-requires-clause-order
draw-requires-clause-order c =
    let drawn = c.loop-position.invariant in
    let next = place_next no_place (take (length c.order-order.result.now - 1) (drop 1 c.order-order.result.now)) c.loop-position.position-index in
    omega (arith, rises c.args.self.now.x_values _ drawn.ordered drawn.at (c.loop-position.position-index + 1) drawn.walked (omega arith), drawn.line, ap (λ (p : Position). p.x) next, c.corner_at-next.ensures.x)

pub loop-position-preserved : goal.loop-position-preserved
loop-position-preserved c =
    let drawn = c.loop-position.invariant in
    let order = no_place ∷ take (length c.order-order.result.now - 1) (drop 1 c.order-order.result.now) in
    let count = c.loop-position.position-index + 1 in
    let next = place_next no_place (take (length c.order-order.result.now - 1) (drop 1 c.order-order.result.now)) c.loop-position.position-index in
    let number : c.from.result ≡ (position_at order count).number = c.from.ensures ∙ ap (λ (p : Position). p.number) (sym next) in
    let walked : count < length order = omega arith in
    let final = final_is c.args.finals.now c.items-finals.result.now (position_at order count).number c.from.result c.items-finals.ensures number in
    elim c.if-point.branch [
      | then-point w ↦
          rw (w.corner-is, w.out-is) (drawn_to c.args.self.now c.args.finals.now order count (count + 1) c.loop-position.corner.x w.corner_at-next.result.x c.loop-position.corner.y w.corner_at-next.result.y c.loop-position.out w.draw.new.out c.points.ensures.points drawn refl walked
          (ap (λ (f : Final). f.flagged) (sym final) ∙ w.if-point.true)
          (w.corner_at-next.ensures.x ∙ ap (λ (p : Position). p.x) (sym next))
          (w.corner_at-next.ensures.y ∙ height_is c.args.self.now c.args.finals.now c.items-finals.result.now (position_at order count).number c.from.result _ c.items-finals.ensures number c.multiplier-multiplier.ensures.value)
          w.corner_at-next.ensures.small
          w.draw.auto.out
          w.draw.ensures.inside
          w.draw.ensures.before)
      | else-point w ↦
          rw (w.corner-is, w.out-is) (drawn_past c.args.self.now c.args.finals.now order count (count + 1) c.loop-position.corner.x c.loop-position.corner.y c.loop-position.out drawn refl walked (ap (λ (f : Final). f.flagged) (sym final) ∙ w.if-point.false))
    ]

pub loop-x-preserved : goal.loop-x-preserved
loop-x-preserved c k a b =
    elim (cases_lt k c.loop-x.x) [
      | inl before ↦ let ne : k ≢ c.loop-x.x = omega arith in rw get_or-set_other (c.loop-x.invariant k before (omega arith))
      | inr behind ↦
          let e : k ≡ c.loop-x.x = omega arith in
          let drawn = c.loop-position.invariant in
          let y : to_z w64 (of_z w64 c.loop-position.corner.y) ≡ c.loop-position.corner.y = to_z-of_z w64 c.loop-position.corner.y (fits_signed_from_abs w64 c.loop-position.corner.y (omega (arith, drawn.small))) in
          get_or-set_at c.loop-x.out c.loop-x.x k c.decibel_number.result 0 e (omega arith)
          ∙ c.decibel_number.ensures ∙ ap decibel_number y
          ∙ sym (drawn_behind c.args.self.now c.args.finals.now _ _ _ _ _ k c.points.ensures.points drawn (omega (arith, drawn.within)) (omega arith))
    ]

pub returns : goal.returns
returns c = fill_by_all _ c.loop-x.out _ 0 (omega arith) (λ k l. c.loop-x.invariant k (omega arith) (omega arith))
