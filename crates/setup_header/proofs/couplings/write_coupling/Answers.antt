use Rattle.setup_fields.proofs.Puts.{first_place, next_places}
use Rattle.setup_header.proofs.couplings.write_coupling.Goals as goal

pub put_number-requires-clause-fits : goal.put_number-requires-clause-fits
put_number-requires-clause-fits c = rw (c.from.ensures, c.saturating_sub.ensures) (first_place c.requires)

pub put_number-requires-2-clause-fits : goal.put_number-requires-2-clause-fits
put_number-requires-2-clause-fits c = rw (c.from-2.ensures, c.saturating_sub.ensures) (first_place (next_places c.requires))
