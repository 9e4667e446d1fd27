use Rattle.std.proofs.Common.{sym, arith}
use Rattle.player_session.proofs.TrialTexts.{no_gaps, gaps_next}
use Rattle.player_session.proofs.trial_texts.gap_count.Goals as goal

pub loop-item-init : goal.loop-item-init
loop-item-init c = (sym no_gaps, omega arith)

pub loop-item-preserved : goal.loop-item-preserved
loop-item-preserved c =
    (gaps_next c.args.items.now c.loop-item.item-index c.loop-item.count c.gaps_of-count.result _ c.loop-item-test.true c.loop-item.invariant.0 c.gaps_of-count.ensures.gaps, omega (arith, c.loop-item.invariant.1, c.gaps_of-count.ensures.most))
