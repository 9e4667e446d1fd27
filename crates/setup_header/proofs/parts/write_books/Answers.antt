use Rattle.std.proofs.Common.{◌-◌, ◌<◌, ◌^◌, length, arith}
use Rattle.setup_fields.proofs.Puts.{first_place, next_places}
use Rattle.setup_header.proofs.parts.write_books.Goals as goal

pub overflow_cast-books : goal.overflow_cast-books
overflow_cast-books c =
    let few : length c.args.books.now - 1 < 2 ^ 8 = first_place c.requires in
    omega arith

pub put_count-requires-clause-fits : goal.put_count-requires-clause-fits
put_count-requires-clause-fits c = first_place c.requires

pub write_each_book-requires : goal.write_each_book-requires
write_each_book-requires c = next_places c.requires
