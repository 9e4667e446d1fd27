use Rattle.std.proofs.Common.{◌≡◌, ◌++◌, map}
use Rattle.std.specs.List.{flat_map, range_with_len}
use Rattle.model_trial.specs.MadeConstants.{number_bytes, made_cosine}
use Rattle.film_maker.proofs.constants.put_cosines.Given as goal

abbrev pub invariant-loop-step : goal.invariant-loop-step
invariant-loop-step l =
    l.bytes.items ≡ l.fn.bytes.items ++ flat_map number_bytes (map made_cosine (range_with_len 0 l.step))
