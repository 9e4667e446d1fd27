use Rattle.std.proofs.Common.{OnOk, flat_map, subst, sym}
use Rattle.model_setup.specs.FloorSetup.{FloorClass}
use Rattle.model_bits.specs.Writing.{optional_byte}
use Rattle.model_writing.specs.SetupWriting.{subclass_book_fields, class_fields}
use Rattle.setup_fields.specs.Puts.{ArePut, HavePlaces}
use Rattle.setup_fields.proofs.Puts.{field_then, then_put, first_place, next_places, places_behind, on_ok}
use Rattle.floor_one.proofs.class.Class.write.Goals as goal

pub put_count-requires-clause-fits : goal.put_count-requires-clause-fits
put_count-requires-clause-fits c =
    let have = subst (λ (class : FloorClass). HavePlaces (class_fields class)) (sym c.self.view_is) c.requires in
    rw c.from.ensures (first_place have)

pub put_number-requires-clause-fits : goal.put_number-requires-clause-fits
put_number-requires-clause-fits c =
    let have = subst (λ (class : FloorClass). HavePlaces (class_fields class)) (sym c.self.view_is) c.requires in
    rw c.from-2.ensures (first_place (next_places have))

pub write_subclass_books-requires : goal.write_subclass_books-requires
write_subclass_books-requires c =
    let s = c.self.inside in
    let have = subst (λ (class : FloorClass). HavePlaces (class_fields class)) (sym c.self.view_is) c.requires in
    rw c.deref.ensures.0 (places_behind (optional_byte s.master) (flat_map subclass_book_fields s.books.items) (next_places (next_places have)))

pub returns-clause-put : goal.returns-clause-put
returns-clause-put c =
    let s = c.self.inside in
    let dimensions = rw c.from.ensures at c.in_ok-put_count.ensures.put in
    let bits = rw c.from-2.ensures at c.in_ok-put_number.ensures.put in
    let books = rw c.deref.ensures.0 at c.write_subclass_books.ensures.put in
    subst (λ (class : FloorClass). OnOk c.write_subclass_books.result (ArePut c.args.out.now c.write_subclass_books.new.out (class_fields class))) c.self.view_is (on_ok c.write_subclass_books.result books (λ last.
    field_then dimensions (field_then bits (then_put (optional_byte s.master) (flat_map subclass_book_fields s.books.items) c.in_ok-put_book.ensures.put last))))
