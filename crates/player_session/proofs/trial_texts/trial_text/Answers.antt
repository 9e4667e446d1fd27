use Rattle.std.proofs.Common.{◌∙◌}
use Rattle.std.specs.List.{concat}
use Rattle.player_session.proofs.TrialTexts.{trial_lines}
use Rattle.player_session.proofs.trial_texts.trial_text.Goals as goal

pub returns : goal.returns
returns c =
    let longer = rw c.deref.ensures at c.in_ok-push_str.ensures.bytes in
    longer ∙ trial_lines c.args.film.now.links c.args.film.now.index (concat c.args.report.now) _ _ c.requires c.in_ok-text.ensures c.in_ok-line.ensures
