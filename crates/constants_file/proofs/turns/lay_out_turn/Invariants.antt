use Rattle.std.proofs.Common.{◌≡◌, ◌+◌, ◌*◌, map}
use Rattle.std.specs.List.{range_with_len}
use Rattle.model_synthesis.specs.Tables.{first_quarter, wave}
use Rattle.constants_file.proofs.turns.lay_out_turn.Given as goal

abbrev pub invariant-loop-place : goal.invariant-loop-place
invariant-loop-place l =
    l.turn.items
    ≡ map (λ j. wave l.block (first_quarter l.cosines l.block) (2 * j + 1)) (range_with_len 0 l.place)
