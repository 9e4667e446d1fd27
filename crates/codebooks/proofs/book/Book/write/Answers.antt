use Rattle.std.proofs.Common.{◌≡◌, length, OnOk, subst, sym, arith}
use Rattle.model_setup.specs.Codebook.{Codebook}
use Rattle.model_writing.specs.SetupWriting.{length_fields, lookup_fields, book_fields}
use Rattle.setup_fields.specs.Puts.{ArePut, HavePlaces}
use Rattle.setup_fields.proofs.Puts.{field_then, then_put, next_places, places_before, places_behind, on_ok}
use Rattle.setup_fields.proofs.Fronts.{front_then, on_err}
use Rattle.codebooks.proofs.book.Book.write.Goals as goal

pub write_lengths-requires : goal.write_lengths-requires
write_lengths-requires c =
    let s = c.self.inside in
    let have = subst (λ (book : Codebook). HavePlaces (book_fields book)) (sym c.self.view_is) c.requires in
    rw c.deref.ensures.value (places_before (length_fields s.lengths.items) (lookup_fields s.table) (next_places (next_places (next_places have))))

pub write_lookup-requires : goal.write_lookup-requires
write_lookup-requires c =
    let s = c.self.inside in
    let have = subst (λ (book : Codebook). HavePlaces (book_fields book)) (sym c.self.view_is) c.requires in
    places_behind (length_fields s.lengths.items) (lookup_fields s.table) (next_places (next_places (next_places have)))

pub returns-clause-put : goal.returns-clause-put
returns-clause-put c =
    let s = c.self.inside in
    let dimensions = rw c.from.ensures at c.in_ok-put_number-2.ensures.put in
    let long : c.len.result ≡ length s.lengths.items = omega (arith, c.len.ensures, s.lengths.ok.0) in
    let count = rw long at c.in_ok-put_number-3.ensures.put in
    let lengths = rw c.deref.ensures.value at c.in_ok-write_lengths.ensures.put in
    subst (λ (book : Codebook). OnOk c.write_lookup.result (ArePut c.args.out.now c.write_lookup.new.out (book_fields book))) c.self.view_is (on_ok c.write_lookup.result c.write_lookup.ensures.put (λ last.
    field_then c.in_ok-put_number.ensures.put (field_then dimensions (field_then count (then_put (length_fields s.lengths.items) (lookup_fields s.table) lengths last)))))

pub returns-clause-kept : goal.returns-clause-kept
returns-clause-kept c = on_err c.write_lookup.result c.write_lookup.ensures.kept (λ last. front_then c.in_ok-put_number.ensures.put (front_then c.in_ok-put_number-2.ensures.put (front_then c.in_ok-put_number-3.ensures.put (front_then c.in_ok-write_lengths.ensures.put last))))
