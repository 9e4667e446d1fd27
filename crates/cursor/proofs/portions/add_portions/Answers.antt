use Rattle.std.proofs.Common.{inl, inr, arith}
use Rattle.cursor.proofs.PortionSteps.{portions_end, gap_ends, span_ends, span_step}
use Rattle.cursor.proofs.portions.add_portions.Goals as goal
use Rattle.cursor.proofs.portions.add_portions.Goals.{then-span-link-via-then-span-link, then-span-link-via-else-span-link+then-left-eq0}

pub returns-in_default : goal.returns-in_default
returns-in_default c = gap_ends _ _ _ _ _ _ _ _ _ c.loop-item-test.true c.in_default.is c.loop-item.invariant

pub returns-then-span-link : goal.returns-then-span-link
returns-then-span-link c = elim c.then-span-link.branch [
  | then-span-link-via-then-span-link w ↦ span_ends _ _ _ _ _ _ _ _ c.loop-item-test.true c.in-Span.is (inl w.if-span-link.true) c.loop-item.invariant
  | then-span-link-via-else-span-link+then-left-eq0 w ↦ span_ends _ _ _ _ _ _ _ _ c.loop-item-test.true c.in-Span.is (inr w.if-left-eq0.true) c.loop-item.invariant
]

pub loop-item-preserved : goal.loop-item-preserved
loop-item-preserved c = span_step _ _ _ _ _ _ _ _ _ _ _ c.loop-item-test.true c.in-Span.is (omega arith) (omega arith) c.cut.ensures c.saturating_sub-left.ensures c.in_ok-push.ensures.items c.loop-item.invariant

pub returns : goal.returns
returns c = portions_end _ _ _ _ _ _ c.loop-item-test.false c.loop-item.invariant
