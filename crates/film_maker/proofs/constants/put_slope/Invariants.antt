use Rattle.std.proofs.Common.{◌≡◌, ◌++◌, map}
use Rattle.std.specs.List.{flat_map, range_with_len}
use Rattle.model_trial.specs.MadeConstants.{number_bytes, made_slope}
use Rattle.film_maker.proofs.constants.put_slope.Given as goal

abbrev pub invariant-loop-place : goal.invariant-loop-place
invariant-loop-place l =
    l.bytes.items ≡ l.fn.bytes.items ++ flat_map number_bytes (map (made_slope l.size) (range_with_len 0 l.place))
