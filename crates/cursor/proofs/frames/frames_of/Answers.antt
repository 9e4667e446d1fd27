use Rattle.std.proofs.Common.{arith, refl, get_or}
use Rattle.cursor.specs.declared.portions.Portion.{Portion}
use Rattle.cursor.proofs.FrameSteps.{halves_within, fit_step, values_step, values_end}
use Rattle.cursor.proofs.frames.frames_of.Goals as goal

pub bounds-halves-number : goal.bounds-halves-number
bounds-halves-number c = omega (arith, halves_within _ _ _ c.loop-number-test.true c.loop-number.invariant.fit)

pub bounds-halves-number-in-loop-number : goal.bounds-halves-number-in-loop-number
bounds-halves-number-in-loop-number c = omega (arith, halves_within _ _ _ c.loop-number-test.true c.loop-number.invariant.fit)

pub offset_bounds-halves-number : goal.offset_bounds-halves-number
offset_bounds-halves-number c = omega (arith, halves_within _ _ _ c.loop-number-test.true c.loop-number.invariant.fit)

pub offset_bounds-halves-number-in-loop-number : goal.offset_bounds-halves-number-in-loop-number
offset_bounds-halves-number-in-loop-number c = omega (arith, halves_within _ _ _ c.loop-number-test.true c.loop-number.invariant.fit)

pub push_frames-requires : goal.push_frames-requires
push_frames-requires c = (fit_step _ _ _ _ _ _ _ c.loop-number-test.true refl c.index-halves-number.is c.index-halves-number-in-loop-number.is c.loop-number.invariant.fit).0

pub loop-number-preserved : goal.loop-number-preserved
loop-number-preserved c = let d : Portion = record { block = 0; from = 0; to = 0 } in record {
  values = values_step _ _ _ d (get_or c.args.portions.now c.loop-number.number d) _ _ _ _ _ c.loop-number-test.true refl c.index-halves-number.is c.index-halves-number-in-loop-number.is c.loop-number.invariant.fit c.in_ok-push_frames.ensures c.loop-number.invariant.values;
  fit = (fit_step _ _ _ d (get_or c.args.portions.now c.loop-number.number d) _ _ c.loop-number-test.true refl c.index-halves-number.is c.index-halves-number-in-loop-number.is c.loop-number.invariant.fit).1;
}

pub returns : goal.returns
returns c = values_end _ _ _ _ _ c.loop-number-test.false c.loop-number.invariant.values
