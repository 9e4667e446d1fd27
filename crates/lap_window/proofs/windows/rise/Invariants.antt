use Rattle.std.proofs.Common.{◌+◌}
use Rattle.model_synthesis.specs.Windows.{windowed_at}
use Rattle.lap_window.proofs.Written.{IsWritten}
use Rattle.lap_window.proofs.windows.rise.Given as goal

abbrev pub invariant-loop-place : goal.invariant-loop-place
invariant-loop-place l =
    IsWritten (windowed_at l.constants l.fn.form l.fn.block) l.fn.block (l.start + l.place) l.block
