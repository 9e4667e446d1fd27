use Rattle.std.proofs.Common.{◌≡◌, ◌++◌, drop}
use Rattle.model_cursor.specs.Splices.{mixed_frame}
use Rattle.cursor.proofs.mix.push_mixed.Given as goal

abbrev pub invariant-loop-channel : goal.invariant-loop-channel
invariant-loop-channel l = l.values.items ++ mixed_frame l.constants l.weight (drop l.channel l.old) (drop l.channel l.new) ≡ l.fn.values.items ++ mixed_frame l.constants l.weight l.old l.new
