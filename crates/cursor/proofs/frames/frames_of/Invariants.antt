use Rattle.std.proofs.Common.{◌≡◌, ◌*◌, ◌++◌, drop}
use Rattle.model_cursor.specs.FrameLists.{values_of}
use Rattle.cursor.specs.Portions.{frames_from, FitHalves}
use Rattle.cursor.proofs.frames.frames_of.Given as goal

abbrev pub invariant-loop-number : goal.invariant-loop-number
invariant-loop-number l = record {
  values : l.values.items ++ values_of (frames_from (drop l.number l.portions) (drop (2 * l.number) l.halves)) ≡ values_of (frames_from l.portions l.halves);
  fit : FitHalves (drop l.number l.portions) (drop (2 * l.number) l.halves);
}
