use Rattle.std.proofs.Common.{◌≡◌, replicate}
use Rattle.claim_bank.proofs.Banks.{vacant}
use Rattle.claim_bank.proofs.core_bank.CoreBank.new.Given as goal

abbrev pub invariant-loop : goal.invariant-loop
invariant-loop g l = l.cells.items ≡ replicate l.counter vacant
