use Rattle.setup_fields.proofs.Puts.{first_place}
use Rattle.floor_one.proofs.class.write_subclass_book.Goals as goal

pub put_number-requires-clause-fits : goal.put_number-requires-clause-fits
put_number-requires-clause-fits c =
    let have = rw c.in-Some.is at c.requires in
    rw c.from.ensures (first_place have)
