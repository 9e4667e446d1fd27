use Rattle.setup_fields.proofs.Puts.{next_places}
use Rattle.setup_header.proofs.parts.write_floor.Goals as goal

pub write-requires : goal.write-requires
write-requires c = next_places c.requires
