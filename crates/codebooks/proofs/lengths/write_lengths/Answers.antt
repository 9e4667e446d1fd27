use Rattle.setup_fields.proofs.Puts.{next_places}
use Rattle.codebooks.proofs.lengths.write_lengths.Goals as goal

pub write_entry_lengths-requires : goal.write_entry_lengths-requires
write_entry_lengths-requires c = rw c.is_sparse-sparse.ensures (next_places (next_places c.requires))
