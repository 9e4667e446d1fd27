use Rattle.std.proofs.Common.{◌≡◌, ◌-◌}
use Rattle.model_synthesis.specs.ConstantsFile.{numbers_of, section}
use Rattle.constants_file.proofs.file.read_section.Given as goal

abbrev pub invariant-loop-index : goal.invariant-loop-index
invariant-loop-index l =
    l.numbers.items ≡ section (numbers_of l.body) l.first (l.index - l.first)
