use Rattle.std.proofs.Common.{◌≡◌, length, arith}
use Rattle.lap_window.proofs.Stretches.{frames_between}
use Rattle.lap_window.proofs.frames.overlap.Goals as goal

pub returns-clause-value : goal.returns-clause-value
returns-clause-value c =
    let size : length c.loop-place.out ≡ length c.args.out.now = omega arith in
    frames_between c.args.right.now c.args.left.now c.args.from c.args.to c.loop-place.out c.requires.order c.requires.within (omega arith)
    (λ k h. c.loop-place.invariant.done k (omega arith))
