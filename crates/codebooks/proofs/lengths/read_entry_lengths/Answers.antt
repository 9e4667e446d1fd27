use Rattle.std.proofs.Common.{◌∙◌, length-append, arith}
use Rattle.std.proofs.lemmas.Result.{err_from_is_err_and}
use Rattle.std.proofs.lemmas.List.Elements.{All-push}
use Rattle.model_bits.proofs.Times.{times_goes_on, times_fails}
use Rattle.model_setup.specs.BookReading.{entry_length_at}
use Rattle.codebooks.specs.Free.{IsLengthIfUsed}
use Rattle.codebooks.proofs.lengths.read_entry_lengths.Goals as goal

pub returns-in_err-len-clause-read : goal.returns-in_err-len-clause-read
returns-in_err-len-clause-read c =
    let p = err_from_is_err_and c.from_residual.result c.from_residual.ensures.1 in
    let m = entry_length_at c.args.sparse in
    rw (p.1, p.2) (λ other. times_fails m c.loop.lengths.items c.args.entries c.loop.counter c.loop.bits.left _ c.loop.invariant.read c.in_err-len.field-0.0 c.loop-test.true (c.in_err-len.ensures.read other))

pub loop-preserved : goal.loop-preserved
loop-preserved c =
    let m = entry_length_at c.args.sparse in
    let n = c.loop.invariant.count in
    rw c.in_ok-push.ensures.items (record {
      bytes = c.in_ok-len.ensures.bytes ∙ c.loop.invariant.bytes;
      read = times_goes_on m c.loop.lengths.items c.args.entries c.loop.counter c.loop.bits.left _ c.loop.invariant.read c.in_ok-len.len c.read_entry_length.new.bits.left c.loop-test.true c.in_ok-len.ensures.read;
      count = simp length-append (omega arith);
      small = All-push IsLengthIfUsed c.loop.lengths.items c.in_ok-len.len c.loop.invariant.small c.in_ok-len.ensures.small;
    })
