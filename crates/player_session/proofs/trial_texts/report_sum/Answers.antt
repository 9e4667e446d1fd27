use Rattle.std.proofs.Common.{ap, sym, ◌∙◌, arith, List, ℕ}
use Rattle.std.specs.List.{concat, fold}
use Rattle.std.proofs.lemmas.List.{take_all}
use Rattle.model_player.specs.Texts.{sum_with, report_sum}
use Rattle.player_session.proofs.TrialTexts.{sum_next}
use Rattle.player_session.proofs.trial_texts.report_sum.Goals as goal

pub loop-text-preserved : goal.loop-text-preserved
loop-text-preserved c =
    let at = rw c.items-text-items.ensures at c.text-item.is in
    let within = rw c.items-text-items.ensures at c.loop-text-test.true in
    c.sum_behind-sum.ensures
    ∙ ap (λ (xs : List ℕ). fold sum_with c.loop-text.sum xs) c.items.ensures
    ∙ ap (λ s. fold sum_with s c.text-item.result) c.loop-text.invariant
    ∙ sym (sum_next c.args.report.now c.loop-text.text-index _ (omega (arith, within)) at)

pub returns : goal.returns
unfolding report_sum
returns c =
    let past = rw c.items-text-items.ensures at c.loop-text-test.false in
    c.loop-text.invariant ∙ ap (λ (xs : List (List ℕ)). fold sum_with 0 (concat xs)) (take_all c.loop-text.text-index c.args.report.now (omega (arith, past)))
