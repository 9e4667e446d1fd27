use Rattle.std.proofs.Common.{◌≡◌, take}
use Rattle.std.specs.List.{concat, fold}
use Rattle.model_player.specs.Texts.{sum_with}
use Rattle.player_session.proofs.trial_texts.report_sum.Given as goal

abbrev pub invariant-loop-text : goal.invariant-loop-text
invariant-loop-text l = l.sum ≡ fold sum_with 0 (concat (take l.text-index l.report))
