use Rattle.std.proofs.Common.{◌≡◌, ◌-◌, ◌^◌, map}
use Rattle.std.specs.List.{range_with_len}
use Rattle.model_synthesis.specs.Tables.{turn_of}
use Rattle.constants_file.proofs.turns.lay_out_turns.Given as goal

abbrev pub invariant-loop-exponent : goal.invariant-loop-exponent
invariant-loop-exponent l =
    l.turns.items ≡ map (λ e. turn_of l.cosines (2 ^ e)) (range_with_len 6 (l.exponent - 6))
