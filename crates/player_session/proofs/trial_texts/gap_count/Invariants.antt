use Rattle.std.proofs.Common.{◌≡◌, ◌≤◌, take}
use Rattle.model_line.specs.Decode.{gap_count}
use Rattle.model_line.specs.Origins.{listed}
use Rattle.player_session.proofs.trial_texts.gap_count.Given as goal

abbrev pub invariant-loop-item : goal.invariant-loop-item
invariant-loop-item l = (l.count ≡ gap_count (listed (take l.item-index l.items))) × (l.count ≤ l.item-index)
