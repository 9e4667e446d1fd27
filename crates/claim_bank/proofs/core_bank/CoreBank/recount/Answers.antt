use Rattle.std.proofs.Common.{◌<◌, length, ap, arith}
use Rattle.std.proofs.lemmas.List.{length-set, length-map}
use Rattle.claim_bank.specs.Cells.{Bank}
use Rattle.claim_bank.specs.declared.core_bank.Cell.{Cell}
use Rattle.claim_bank.proofs.Banks.{put_slot, recounted}
use Rattle.claim_bank.proofs.core_bank.CoreBank.recount.Goals as goal

pub returns-clause-slots : goal.returns-clause-slots
returns-clause-slots g c =
    let is = ap (λ (b : Bank g.row.F-Tag.Denot). b.slots) c.self.view_is in
    put_slot c.self.inside.cells.items c.args.self.now.slots c.place-at.result c.args.key is
    c.place-at.ensures.place _

pub invariant_of-self : goal.invariant_of-self
invariant_of-self g c =
    let cells = c.self.inside.cells.items in
    let is = ap (λ (b : Bank g.row.F-Tag.Denot). b.slots) c.self.view_is in
    let within : c.place-at.result < length cells
    = rw (← length-map cells (λ (x : Cell g.row.V.Denot). x.slot), is)
    c.place-at.ensures.within in
    let fits = recounted cells c.args.self.now.slots c.place-at.result c.args.key is
    c.place-at.ensures.place g.F.Fact.fits c.self.inside.tag.value c.args.slot
    c.index_mut.result.now within c.index_mut.ensures.value
    (rw (ap (λ (b : Bank g.row.F-Tag.Denot). b.tag) c.self.view_is) c.requires)
    c.self.invariant.2 in
    (rw (length-set cells c.place-at.result _) (omega arith), rw (length-set cells c.place-at.result _) (omega arith), fits)
