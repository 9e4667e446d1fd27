use Rattle.film_dump.proofs.LineSteps.{Midway}
use Rattle.film_dump.proofs.line.dump.Given as goal

abbrev pub invariant-loop-item : goal.invariant-loop-item
invariant-loop-item g l = Midway l.reel.constants l.reel.film.links l.items (g.K.Sink.written l.fn.sink) (g.K.Sink.written l.sink) (g.K.Sink.faults l.fn.sink) (g.K.Sink.faults l.sink) l.waiting.items l.kept l.item-index
