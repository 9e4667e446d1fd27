use Rattle.setup_fields.proofs.Puts.{field_then, next_places, on_ok}
use Rattle.codebooks.proofs.lookup.VectorTable.write.Goals as goal

pub put_words-requires-clause-fits : goal.put_words-requires-clause-fits
put_words-requires-clause-fits c =
    let have = rw (← c.self.view_is) at c.requires in
    rw c.deref.ensures.value (next_places (next_places (next_places (next_places (next_places have)))))

pub returns-clause-put : goal.returns-clause-put
returns-clause-put c =
    let kind = rw c.lookup_type.ensures at c.in_ok-put_number.ensures.put in
    let words = rw c.deref.ensures.value at c.put_words.ensures.put in
    rw (← c.self.view_is) (on_ok c.put_words.result words (λ last.
    field_then kind (field_then c.in_ok-put_number-2.ensures.put (field_then c.in_ok-put_number-3.ensures.put (field_then c.in_ok-put_number-4.ensures.put (field_then c.in_ok-put_flag.ensures.put last))))))
