use Rattle.std.proofs.Common.{◌<◌, arith}
use Rattle.model_trial.specs.MadeConstants.{made_slope}
use Rattle.model_trial.proofs.Curves.{small_slope}
use Rattle.film_maker.proofs.constants.made_slope.Goals as goal

pub overflow_cast-result : goal.overflow_cast-result
unfolding made_slope
overflow_cast-result c =
    let less : c.from.result < c.from-2.result = omega arith in
    let small = small_slope c.from-2.result c.from.result less in
    omega (arith, small)
