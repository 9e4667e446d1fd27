use Rattle.std.proofs.Common.{◌∙◌, ◌<◌, IfSome, length-append, arith}
use Rattle.std.proofs.lemmas.List.Elements.{All-push}
use Rattle.model_bits.proofs.Times.{times_goes_on}
use Rattle.model_setup.specs.FloorReading.{subclass_book_at}
use Rattle.floor_one.proofs.class.read_subclass_books.Goals as goal

pub loop-preserved : goal.loop-preserved
loop-preserved c =
    let m = subclass_book_at c.args.books in
    let n = c.loop.invariant.count in
    rw c.push.ensures.items (record {
      read = times_goes_on m c.loop.found.items c.args.count c.loop.counter c.loop.bits.left _ c.loop.invariant.read c.in_ok-book.book c.read_subclass_book.new.bits.left c.loop-test.true c.in_ok-book.ensures.read;
      count = simp length-append (omega arith);
      below = All-push (λ named. IfSome named (λ n. n < c.args.books)) c.loop.found.items c.in_ok-book.book c.loop.invariant.below c.in_ok-book.ensures.below;
      bytes = c.in_ok-book.ensures.bytes ∙ c.loop.invariant.bytes;
    })
