use Rattle.std.proofs.Common.{◌∙◌, ◌<◌, length-append, arith}
use Rattle.std.proofs.lemmas.List.Elements.{All-push}
use Rattle.std.proofs.lemmas.Result.{err_from_is_err_and}
use Rattle.model_bits.proofs.Times.{times_goes_on, times_fails}
use Rattle.model_setup.specs.FloorReading.{floor_field}
use Rattle.floor_one.proofs.floor.read_class_numbers.Goals as goal

pub loop-preserved : goal.loop-preserved
loop-preserved c =
    let m = floor_field 4 in
    let n = c.loop.invariant.count in
    rw c.push.ensures.items (record {
      read = times_goes_on m c.loop.numbers.items c.args.count c.loop.counter c.loop.bits.left _ c.loop.invariant.read c.in_ok-number.number c.read_field.new.bits.left c.loop-test.true c.in_ok-number.ensures.field;
      count = simp length-append (omega arith);
      small = All-push (λ class. class < 16) c.loop.numbers.items c.in_ok-number.number c.loop.invariant.small c.in_ok-number.ensures.below;
      bytes = c.in_ok-number.ensures.bytes ∙ c.loop.invariant.bytes;
    })

pub returns-in_err-number-clause-read : goal.returns-in_err-number-clause-read
returns-in_err-number-clause-read c =
    let failed = err_from_is_err_and c.from_residual.result c.from_residual.ensures.1 in
    let fault = c.in_err-number.field-0.0 in
    rw (failed.1, failed.2) (times_fails (floor_field 4) c.loop.numbers.items c.args.count c.loop.counter c.loop.bits.left _ c.loop.invariant.read fault c.loop-test.true c.in_err-number.ensures.field)
