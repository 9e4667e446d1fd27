use Rattle.std.proofs.Common.{◌≤◌}
use Rattle.model_line.specs.Blocks.{overlap_frame}
use Rattle.film_dump.proofs.FrameSteps.{Added}
use Rattle.film_dump.proofs.frames.write_frames.Given as goal

abbrev pub invariant-loop-number : goal.invariant-loop-number
invariant-loop-number g l =
    Added l.span.link (overlap_frame l.right l.left) l.span.from (g.K.Sink.written l.fn.sink) (g.K.Sink.written l.sink) l.fn.waiting.items l.waiting.items l.number
    × (g.K.Sink.faults l.fn.sink ≤ g.K.Sink.faults l.sink)
