use Rattle.std.proofs.Common.{ap, length, arith, List, ℕ}
use Rattle.player_session.proofs.TrialTexts.{size_next}
use Rattle.player_session.proofs.trial_texts.report_size.Goals as goal

pub loop-text-preserved : goal.loop-text-preserved
loop-text-preserved c =
    let at = rw c.items-text-items.ensures at c.text-item.is in
    let within = rw c.items-text-items.ensures at c.loop-text-test.true in
    let next = size_next c.args.report.now c.loop-text.text-index _ (omega (arith, within)) at in
    (omega (arith, c.loop-text.invariant.0, ap (λ (xs : List ℕ). length xs) c.items.ensures, next), omega (arith, c.loop-text.invariant.1, c.items.type_inv))
