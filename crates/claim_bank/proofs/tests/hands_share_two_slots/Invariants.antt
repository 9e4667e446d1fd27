use Rattle.std.proofs.Common.{◌≡◌}
use Rattle.claim_bank.proofs.tests.hands_share_two_slots.Given as goal

abbrev pub invariant-loop-name : goal.invariant-loop-name
invariant-loop-name g l = l.bank.tag ≡ 10
