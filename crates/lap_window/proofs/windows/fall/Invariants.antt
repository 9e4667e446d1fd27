use Rattle.std.proofs.Common.{◌+◌}
use Rattle.lap_window.proofs.Written.{IsWritten}
use Rattle.lap_window.proofs.Sides.{fallen_at}
use Rattle.lap_window.proofs.windows.fall.Given as goal

abbrev pub invariant-loop-place : goal.invariant-loop-place
invariant-loop-place l =
    IsWritten (fallen_at l.constants l.fn.form l.fn.block) l.fn.block (l.start + l.place) l.block
