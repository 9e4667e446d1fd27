use Rattle.std.proofs.Common.{subst}
use Rattle.model_setup.specs.SetupPacket.{SetupFields}
use Rattle.model_writing.specs.SetupWriting.{setup_fields}
use Rattle.model_writing.proofs.Whole.{setup_fits}
use Rattle.setup_fields.proofs.Puts.{places}
use Rattle.setup_header.specs.Setups.{channels_of, AreReadAs}
use Rattle.setup_header.proofs.SetupBytes.{bytes_read}
use Rattle.setup_header.proofs.setup.setup_bytes.Goals as goal

pub write-requires-clause-fits : goal.write-requires-clause-fits
write-requires-clause-fits c =
    let parts = c.setup.inside.parts in
    places (setup_fields parts) (setup_fits (channels_of parts) parts c.setup.invariant.was.read)

pub returns-clause-read : goal.returns-clause-read
returns-clause-read c =
    subst (λ (setup : SetupFields). AreReadAs setup c.done.result.items) c.setup.view_is
    (bytes_read c.setup.inside.parts c.new-out.result c.write.new.out c.done.result.items c.new-out.ensures c.in_ok-write.ensures.put c.done.ensures c.setup.invariant.was)
