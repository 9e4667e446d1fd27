use Rattle.std.proofs.Common.{OnOk, subst}
use Rattle.model_setup.specs.SetupPacket.{Mode}
use Rattle.model_writing.specs.SetupWriting.{mode_fields}
use Rattle.setup_fields.specs.Puts.{ArePut}
use Rattle.setup_fields.proofs.Puts.{field_then, on_ok}
use Rattle.setup_header.proofs.mode.write_mode.Goals as goal

pub returns-clause-put : goal.returns-clause-put
returns-clause-put c =
    let mapping = rw c.from.ensures at c.put_number-3.ensures.put in
    subst (λ (mode : Mode). OnOk c.put_number-3.result (ArePut c.args.out.now c.put_number-3.new.out (mode_fields mode))) c.mode.view_is (on_ok c.put_number-3.result mapping (λ last.
    field_then c.in_ok-put_flag.ensures.put (field_then c.in_ok-put_number.ensures.put (field_then c.in_ok-put_number-2.ensures.put last))))
