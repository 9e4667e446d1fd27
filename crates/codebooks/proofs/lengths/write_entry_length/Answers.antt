use Rattle.setup_fields.proofs.Puts.{first_place, next_places}
use Rattle.codebooks.proofs.lengths.write_entry_length.Goals as goal

pub put_count-requires-clause-fits : goal.put_count-requires-clause-fits
put_count-requires-clause-fits c =
    let have = rw (c.in-true-Some.is-0, c.in-true-Some.is-1) at c.requires in
    rw c.from.ensures (first_place (next_places have))

pub put_count-requires-in-false-Some-clause-fits : goal.put_count-requires-in-false-Some-clause-fits
put_count-requires-in-false-Some-clause-fits c =
    let have = rw (c.in-false-Some.is-0, c.in-false-Some.is-1) at c.requires in
    rw c.from-in-false-Some.ensures (first_place have)
