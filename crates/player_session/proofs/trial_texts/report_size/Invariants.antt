use Rattle.std.proofs.Common.{◌≡◌, ◌≤◌, ◌*◌, ◌^◌, length, take}
use Rattle.std.specs.List.{concat}
use Rattle.player_session.proofs.trial_texts.report_size.Given as goal

abbrev pub invariant-loop-text : goal.invariant-loop-text
invariant-loop-text l = (l.size ≡ length (concat (take l.text-index l.report))) × (l.size ≤ l.text-index * 2 ^ 63)
