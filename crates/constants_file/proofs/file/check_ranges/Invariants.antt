use Rattle.std.proofs.Common.{◌≡◌, ◌-◌}
use Rattle.std.specs.List.{find, range_with_len}
use Rattle.model_synthesis.specs.ConstantsFile.{number_count, is_past, first_past}
use Rattle.constants_file.proofs.file.check_ranges.Given as goal

abbrev pub invariant-loop-index : goal.invariant-loop-index
invariant-loop-index l =
    find (is_past l.body) (range_with_len l.index (number_count l.body - l.index)) ≡ first_past l.body
