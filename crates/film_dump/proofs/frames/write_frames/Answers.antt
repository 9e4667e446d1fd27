use Rattle.std.proofs.Common.{◌≤◌, ◌-◌, ◌+◌, arith}
use Rattle.std.proofs.lemmas.Result.{err_from_is_err_and}
use Rattle.model_line.specs.Blocks.{overlap_frame}
use Rattle.film_dump.specs.declared.fault.DumpFault.TheVariants as faults
use Rattle.film_dump.proofs.Midst.{memory_broke}
use Rattle.film_dump.proofs.FrameSteps.{added_more, added_put, broken_off}
use Rattle.film_dump.proofs.frames.write_frames.Goals as goal

pub returns-in_err-add_frame-clause-step : goal.returns-in_err-add_frame-clause-step
returns-in_err-add_frame-clause-step g c =
    let p = err_from_is_err_and c.from_residual.result c.from_residual.ensures.1 in
    let s = c.args.span.now in
    let within : c.loop-number.number - s.from ≤ s.to - s.from = omega (arith, c.loop-number-test.true) in
    rw (p.1, p.2) (broken_off s.link (overlap_frame c.args.right.now c.args.left.now) s.from faults.Memory _ _ _ _ _ _ (s.to - s.from) within c.loop-number.invariant.0 (memory_broke _ _ _))

pub returns-in_err-put_many-clause-step : goal.returns-in_err-put_many-clause-step
returns-in_err-put_many-clause-step g c =
    let p = err_from_is_err_and c.from_residual-in_err-put_many.result c.from_residual-in_err-put_many.ensures.1 in
    let s = c.args.span.now in
    let from_on : s.from ≤ c.loop-number.number = omega arith in
    let within : c.loop-number.number + 1 - s.from ≤ s.to - s.from = omega (arith, c.loop-number-test.true) in
    let one = rw (c.items.ensures, c.items-in-loop-number.ensures) at c.in_ok-add_frame.ensures in
    let f = overlap_frame c.args.right.now c.args.left.now in
    rw (p.1, p.2) (broken_off s.link f s.from c.in_err-put_many.field-0.0 _ _ _ _ _ (c.loop-number.number + 1) (s.to - s.from) within (added_more s.link f s.from _ _ _ _ _ c.loop-number.number from_on c.loop-number.invariant.0 one) c.in_err-put_many.ensures.step)

pub loop-number-preserved : goal.loop-number-preserved
loop-number-preserved g c =
    let s = c.args.span.now in
    let from_on : s.from ≤ c.loop-number.number = omega arith in
    let one = rw (c.items.ensures, c.items-in-loop-number.ensures) at c.in_ok-add_frame.ensures in
    let f = overlap_frame c.args.right.now c.args.left.now in
    (added_put s.link f s.from _ _ _ _ _ _ (c.loop-number.number + 1) (added_more s.link f s.from _ _ _ _ _ c.loop-number.number from_on c.loop-number.invariant.0 one) c.in_ok-put_many.ensures.step, omega (arith, c.loop-number.invariant.1, c.in_ok-put_many.ensures.later))
