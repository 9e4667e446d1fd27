use Rattle.std.proofs.Common.{arith}
use Rattle.granule_seek.proofs.Halving.{low_next, high_next}
use Rattle.granule_seek.proofs.search.last_at_most.Goals as goal

pub loop-low-preserved-then-at-p : goal.loop-low-preserved-then-at-p
loop-low-preserved-then-at-p g c =
    low_next _ _ _ _ _ _ _ _ _ c.loop-low.invariant c.requires c.at.ensures.number (omega arith)
    (omega arith) (omega arith) (omega arith) c.at.ensures.step

pub loop-low-preserved : goal.loop-low-preserved
loop-low-preserved g c =
    high_next _ _ _ _ _ _ _ _ _ c.loop-low.invariant c.requires c.at.ensures.number (omega arith)
    (omega arith) (omega arith) (omega arith) c.at.ensures.step
