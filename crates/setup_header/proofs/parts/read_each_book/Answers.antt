use Rattle.std.proofs.Common.{◌∙◌, ◌+◌, length-append, arith}
use Rattle.std.proofs.lemmas.Result.{err_from_is_err_and}
use Rattle.model_bits.proofs.Repeat.{repeat_goes_on, repeat_fails}
use Rattle.model_setup.specs.SetupPacket.{next_book_at}
use Rattle.setup_header.proofs.parts.read_each_book.Goals as goal

pub loop-number-preserved : goal.loop-number-preserved
loop-number-preserved c =
    let n = c.loop-number.invariant.count in
    rw c.in_ok-push.ensures.items (record {
      read = repeat_goes_on next_book_at c.loop-number.books.items c.args.count c.loop-number.number (c.loop-number.number, c.loop-number.budget) c.loop-number.bits.left _ c.loop-number.invariant.read c.in_ok-book.book (c.loop-number.number + 1, c.read_book.new.budget) c.read_book.new.bits.left c.loop-number-test.true c.in_ok-book.ensures.read;
      count = simp length-append (omega arith);
      bytes = c.in_ok-book.ensures.bytes ∙ c.loop-number.invariant.bytes;
    })

pub returns-in_err-book-clause-read : goal.returns-in_err-book-clause-read
returns-in_err-book-clause-read c =
    let failed = err_from_is_err_and c.from_residual.result c.from_residual.ensures.1 in
    rw (failed.1, failed.2) (λ other. repeat_fails next_book_at c.loop-number.books.items c.args.count c.loop-number.number (c.loop-number.number, c.loop-number.budget) c.loop-number.bits.left _ c.loop-number.invariant.read c.in_err-book.field-0.0 c.loop-number-test.true (c.in_err-book.ensures.read other))
