use Rattle.std.proofs.Common.{refl}
use Rattle.model_replay.specs.declared.slot.Slot.TheVariants.{Taken}
use Rattle.claim_bank.proofs.Banks.{slot_put}
use Rattle.claim_bank.proofs.core_bank.CoreBankBench.lease.Goals as goal

pub returns-clause-lease : goal.returns-clause-lease
returns-clause-lease g c =
    let slot = Taken c.args.hand c.args.key in
    rw (
      c.put.ensures.slots,
      slot_put c.args.self.now.slots c.args.key slot c.slot.ensures.within,
    )
    (refl, refl)
