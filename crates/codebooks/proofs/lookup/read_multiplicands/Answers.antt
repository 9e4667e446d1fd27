use Rattle.std.proofs.Common.{◌∙◌, length-append, arith}
use Rattle.std.proofs.lemmas.Result.{err_from_is_err_and}
use Rattle.model_bits.proofs.Times.{times_goes_on, times_fails}
use Rattle.model_setup.specs.BookReading.{field}
use Rattle.codebooks.proofs.lookup.read_multiplicands.Goals as goal

pub returns-in_err-multiplicand-clause-read : goal.returns-in_err-multiplicand-clause-read
returns-in_err-multiplicand-clause-read c =
    let p = err_from_is_err_and c.from_residual.result c.from_residual.ensures.1 in
    let m = field c.args.width in
    rw (p.1, p.2) (λ other. times_fails m c.loop.multiplicands.items c.args.count c.loop.counter c.loop.bits.left _ c.loop.invariant.read c.in_err-multiplicand.field-0.0 c.loop-test.true (c.in_err-multiplicand.ensures.field other))

pub loop-preserved : goal.loop-preserved
loop-preserved c =
    let m = field c.args.width in
    let n = c.loop.invariant.count in
    rw c.in_ok-push.ensures.items (record {
      bytes = c.in_ok-multiplicand.ensures.bytes ∙ c.loop.invariant.bytes;
      read = times_goes_on m c.loop.multiplicands.items c.args.count c.loop.counter c.loop.bits.left _ c.loop.invariant.read c.in_ok-multiplicand.multiplicand c.read_field.new.bits.left c.loop-test.true c.in_ok-multiplicand.ensures.field;
      count = simp length-append (omega arith);
    })
