use Rattle.std.proofs.Common.{◌^◌, refl, ◌≡◌, ◌≢◌, ◌<◌, ◌≤◌, ◌-◌, ◌-ℤ◌, length, sym, ap, ◌∙◌, arith, w64, get_or-set_other, inl, inr}
use Rattle.std.specs.Prelude.{int_lt, unsigned_abs}
use Rattle.std.proofs.lemmas.Int.{to_z-of_z, fits_signed_from_abs}
use Rattle.std.proofs.lemmas.Bool.{cases_lt}
use Rattle.std.proofs.lemmas.Grind.{get_or-set_at}
use Rattle.model_setup.specs.FloorCurve.{decibel_number, render_point}
use Rattle.floor_one.proofs.Straight.{begins, is_on_line, steps_on, stays_small, rise_small, base_small}
use Rattle.floor_one.proofs.curve.draw.Goals as goal

pub next-pen-requires-clause-base : goal.next-pen-requires-clause-base
next-pen-requires-clause-base c =
    base_small _ _ _ _ c.slope_between-slope.ensures.base (rise_small c.args.low.y c.args.high.y c.requires.low c.requires.high)

pub next-pen-requires-clause-height : goal.next-pen-requires-clause-height
next-pen-requires-clause-height c =
    stays_small _ c.args.low.y _ _ _ _ _ c.loop-x.invariant.on (omega arith) (rise_small c.args.low.y c.args.high.y c.requires.low c.requires.high) c.requires.low

pub loop-x-init : goal.loop-x-init
loop-x-init c = record {
  on =
      begins (int_lt c.args.high.y c.args.low.y) c.args.low.y (unsigned_abs (c.args.high.y -ℤ c.args.low.y)) (c.args.high.x - c.args.low.x) (c.args.low.x - c.args.low.x) _ (omega arith) (omega arith)
      (to_z-of_z w64 c.args.low.y (fits_signed_from_abs w64 c.args.low.y (omega (arith, c.requires.low))));
  inside = λ k a b. absurd (omega arith);
  before = λ k a. refl;
}

pub loop-x-preserved : goal.loop-x-preserved
loop-x-preserved c =
    let rise : unsigned_abs (c.args.high.y -ℤ c.args.low.y) ≤ 2 ^ 28 = rise_small c.args.low.y c.args.high.y c.requires.low c.requires.high in
    let base : unsigned_abs c.slope_between-slope.result.base ≤ 2 ^ 28 = base_small (int_lt c.args.high.y c.args.low.y) (unsigned_abs (c.args.high.y -ℤ c.args.low.y)) (c.args.high.x - c.args.low.x) c.slope_between-slope.result.base c.slope_between-slope.ensures.base rise in
    let height : unsigned_abs c.loop-x.pen.height ≤ 2 ^ 30 = stays_small (int_lt c.args.high.y c.args.low.y) c.args.low.y (unsigned_abs (c.args.high.y -ℤ c.args.low.y)) (c.args.high.x - c.args.low.x) (c.loop-x.x - c.args.low.x) c.loop-x.pen.height c.loop-x.pen.error c.loop-x.invariant.on (omega arith) rise c.requires.low in
    let here : c.decibel_number.result ≡ decibel_number (render_point c.args.low.x c.args.low.y c.args.high.x c.args.high.y c.loop-x.x) =
    c.decibel_number.ensures ∙ ap decibel_number (to_z-of_z w64 c.loop-x.pen.height (fits_signed_from_abs w64 c.loop-x.pen.height (omega arith)) ∙ is_on_line c.args.low.x c.args.low.y c.args.high.x c.args.high.y c.loop-x.x c.loop-x.pen.height c.loop-x.pen.error c.loop-x.invariant.on) in
    let within : c.loop-x.x < length c.loop-x.out = omega arith in
    record {
      on =
          steps_on _ c.args.low.y _ _ (c.loop-x.x - c.args.low.x) _ c.loop-x.pen.height c.slope_between-slope.result.base c.slope_between-slope.result.direction c.next-pen.result.height c.loop-x.pen.error c.slope_between-slope.result.remainder c.next-pen.result.error c.loop-x.invariant.on (omega arith) c.slope_between-slope.ensures.base c.slope_between-slope.ensures.direction c.slope_between-slope.ensures.remainder
          (λ l. c.next-pen.ensures.same (omega arith))
          (λ l. c.next-pen.ensures.same_error (omega arith))
          (λ l. c.next-pen.ensures.more (omega arith))
          (λ l. omega (arith, c.next-pen.ensures.more_error (omega arith)));
      inside =
          λ k a b.
          elim (cases_lt k c.loop-x.x) [
            | inl before ↦ let ne : k ≢ c.loop-x.x = omega arith in rw get_or-set_other (c.loop-x.invariant.inside k a before)
            | inr behind ↦
                let e : k ≡ c.loop-x.x = omega arith in
                get_or-set_at c.loop-x.out c.loop-x.x k c.decibel_number.result 0 e within ∙ here ∙ ap (λ n. decibel_number (render_point c.args.low.x c.args.low.y c.args.high.x c.args.high.y n)) (sym e)
          ];
      before =
          λ k a.
          let ne : k ≢ c.loop-x.x = omega arith in
          rw get_or-set_other (c.loop-x.invariant.before k a);
    }
