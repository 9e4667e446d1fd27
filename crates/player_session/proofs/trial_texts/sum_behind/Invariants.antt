use Rattle.std.proofs.Common.{◌≡◌, take}
use Rattle.std.specs.List.{fold}
use Rattle.model_player.specs.Texts.{sum_with}
use Rattle.player_session.proofs.trial_texts.sum_behind.Given as goal

abbrev pub invariant-loop-byte : goal.invariant-loop-byte
invariant-loop-byte l = l.total ≡ fold sum_with l.sum (take l.byte-index l.bytes)
