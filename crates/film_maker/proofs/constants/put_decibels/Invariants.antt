use Rattle.std.proofs.Common.{◌≡◌, ◌++◌, map}
use Rattle.std.specs.List.{flat_map, range_with_len}
use Rattle.model_trial.specs.MadeConstants.{number_bytes, made_decibel}
use Rattle.film_maker.proofs.constants.put_decibels.Given as goal

abbrev pub invariant-loop-height : goal.invariant-loop-height
invariant-loop-height l =
    l.bytes.items ≡ l.fn.bytes.items ++ flat_map number_bytes (map made_decibel (range_with_len 0 l.height))
