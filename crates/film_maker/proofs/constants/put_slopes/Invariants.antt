use Rattle.std.proofs.Common.{◌≡◌, ◌++◌, take}
use Rattle.std.specs.List.{flat_map}
use Rattle.model_synthesis.specs.Tables.{slope_sizes}
use Rattle.model_trial.specs.MadeConstants.{number_bytes, made_slope_table}
use Rattle.film_maker.proofs.constants.put_slopes.Given as goal

abbrev pub invariant-loop-size : goal.invariant-loop-size
invariant-loop-size l =
    l.bytes.items
    ≡ l.fn.bytes.items ++ flat_map number_bytes (flat_map made_slope_table (take l.size-index slope_sizes))
