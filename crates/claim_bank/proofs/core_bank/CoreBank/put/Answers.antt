use Rattle.std.proofs.Common.{ap}
use Rattle.claim_bank.specs.Cells.{Bank}
use Rattle.claim_bank.proofs.Banks.{put_slot}
use Rattle.claim_bank.proofs.core_bank.CoreBank.put.Goals as goal

pub returns-clause-slots : goal.returns-clause-slots
returns-clause-slots g c =
    let is = ap (λ (b : Bank g.row.F-Tag.Denot). b.slots) c.self.view_is in
    put_slot c.self.inside.cells.items c.args.self.now.slots c.place-at.result c.args.key is
    c.place-at.ensures.place _
