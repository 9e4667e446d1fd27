use Rattle.std.proofs.Common.{◌-◌}
use Rattle.granule_seek.proofs.Halving.{Halved}
use Rattle.granule_seek.proofs.search.last_at_most.Given as goal

abbrev pub invariant-loop-low : goal.invariant-loop-low
invariant-loop-low g l = Halved (g.T.Starts.numbers l.starts) l.p l.low l.high l.fn.steps l.steps

abbrev pub decreases-loop-low : goal.decreases-loop-low
decreases-loop-low g l = l.high - l.low
