use Rattle.std.proofs.Common.{ap, arith}
use Rattle.model_trial.specs.MadeFilm.{frames_between}
use Rattle.film_maker.proofs.Paging.{frames_between-le}
use Rattle.film_maker.proofs.pages.frames_between.Goals as goal

pub overflow_add-frames : goal.overflow_add-frames
overflow_add-frames c =
    omega (arith, c.loop-before.invariant, ap frames_between c.in-Some.ensures.cases.0, c.frames_up_to.ensures.frames, frames_between-le c.args.modes.now, c.from-frames.ensures)

pub loop-before-preserved : goal.loop-before-preserved
loop-before-preserved c =
    omega (arith, c.loop-before.invariant, ap frames_between c.in-Some.ensures.cases.0, c.frames_up_to.ensures.frames, c.from-frames.ensures)

pub returns : goal.returns
returns c = omega (arith, c.loop-before.invariant, frames_between-le c.loop-before.rest.now, c.in_default.ensures.cases)
