use Rattle.setup_fields.proofs.Puts.{field_then, next_places, on_ok}
use Rattle.setup_header.proofs.parts.write_residue.Goals as goal

pub write-requires : goal.write-requires
write-requires c = next_places c.requires

pub returns-clause-put : goal.returns-clause-put
returns-clause-put c =
    let kind = rw c.kind.ensures at c.in_ok-put_number.ensures.put in
    on_ok c.write.result c.write.ensures.put (λ last. field_then kind last)
