use Rattle.std.proofs.Common.{◌∙◌, length-append, arith}
use Rattle.std.proofs.lemmas.Result.{err_from_is_err_and}
use Rattle.model_bits.proofs.Times.{times_goes_on, times_fails}
use Rattle.model_setup.specs.ResidueReading.{pass_flags_at}
use Rattle.residues.proofs.residue.read_all_flags.Goals as goal

pub returns-in_err-flags-clause-read : goal.returns-in_err-flags-clause-read
returns-in_err-flags-clause-read c =
    let p = err_from_is_err_and c.from_residual.result c.from_residual.ensures.1 in
    rw (p.1, p.2) (λ other. times_fails pass_flags_at c.loop.all.items c.args.classes c.loop.counter c.loop.bits.left _ c.loop.invariant.read _ c.loop-test.true (c.in_err-flags.ensures.read other))

pub loop-preserved : goal.loop-preserved
loop-preserved c =
    let n = c.loop.invariant.count in
    rw c.in_ok-push.ensures.items (record {
      read = times_goes_on pass_flags_at c.loop.all.items c.args.classes c.loop.counter c.loop.bits.left _ c.loop.invariant.read c.in_ok-flags.flags c.read_pass_flags.new.bits.left c.loop-test.true c.in_ok-flags.ensures.read;
      bytes = c.in_ok-flags.ensures.bytes ∙ c.loop.invariant.bytes;
      count = simp length-append (omega arith);
    })
