use Rattle.std.proofs.Common.{◌+◌, ap, sym, arith}
use Rattle.constants_file.proofs.SlopeSizes.{slope_size_place}
use Rattle.constants_file.proofs.constants.slope_place.Goals as goal

pub overflow_sub-result : goal.overflow_sub-result
overflow_sub-result c = (slope_size_place c.args.size c.requires.size).least

pub returns-clause-value : goal.returns-clause-value
returns-clause-value c =
    ap (λ n. n + c.args.place) (sym (slope_size_place c.args.size c.requires.size).before)

pub returns-clause-within : goal.returns-clause-within
returns-clause-within c =
    let place = slope_size_place c.args.size c.requires.size in
    omega arith
