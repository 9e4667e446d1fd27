use Rattle.std.proofs.Common.{◌≡◌, ◌++◌, drop}
use Rattle.model_cursor.specs.FrameLists.{values_of}
use Rattle.model_cursor.specs.Splices.{mixed_from}
use Rattle.cursor.proofs.MixSteps.{filled}
use Rattle.cursor.proofs.mix.mix.Given as goal

abbrev pub invariant-loop-number : goal.invariant-loop-number
invariant-loop-number l = l.values.items ++ values_of (mixed_from l.constants l.frames l.number (drop l.number (filled l.frames l.old)) (drop l.number l.new)) ≡ values_of (mixed_from l.constants l.frames 0 (filled l.frames l.old) l.new)
