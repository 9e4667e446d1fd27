use Rattle.std.proofs.Common.{OnOk, subst}
use Rattle.model_setup.specs.SetupPacket.{Submap}
use Rattle.model_writing.specs.SetupWriting.{submap_fields}
use Rattle.setup_fields.specs.Puts.{ArePut}
use Rattle.setup_fields.proofs.Puts.{field_then, on_ok}
use Rattle.setup_header.proofs.submaps.write_submap.Goals as goal

pub returns-clause-put : goal.returns-clause-put
returns-clause-put c =
    let floor = rw c.from.ensures at c.in_ok-put_number-2.ensures.put in
    let residue = rw c.from-2.ensures at c.put_number-3.ensures.put in
    subst (λ (submap : Submap). OnOk c.put_number-3.result (ArePut c.args.out.now c.put_number-3.new.out (submap_fields submap))) c.submap.view_is (on_ok c.put_number-3.result residue (λ last.
    field_then c.in_ok-put_number.ensures.put (field_then floor last)))
