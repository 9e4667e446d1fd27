use Rattle.std.proofs.Common.{◌≡◌, arith}
use Rattle.claim_bank.proofs.Banks.{all_empty}
use Rattle.claim_bank.proofs.core_bank.CoreBank.new.Goals as goal

pub returns-clause-slots : goal.returns-clause-slots
returns-clause-slots g c =
    let e : c.loop.counter ≡ c.args.slots = omega arith in
    rw (c.loop.invariant, e) (all_empty g.row.V.Denot c.args.slots)
