use Rattle.std.proofs.Common.{◌∙◌, length-append, arith}
use Rattle.std.proofs.lemmas.Result.{err_from_is_err_and}
use Rattle.std.proofs.lemmas.List.Elements.{All-push}
use Rattle.model_bits.proofs.Times.{times_goes_on, times_fails}
use Rattle.model_setup.specs.SetupPacket.{coupling_at, IsCoupling}
use Rattle.setup_header.proofs.couplings.read_each_coupling.Goals as goal

pub loop-preserved : goal.loop-preserved
loop-preserved c =
    let n = c.loop.invariant.count in
    rw c.in_ok-push.ensures.items (record {
      read = times_goes_on (coupling_at c.args.channels c.args.fault) c.loop.couplings.items c.args.count c.loop.counter c.loop.bits.left _ c.loop.invariant.read c.in_ok-coupling.coupling c.read_coupling.new.bits.left c.loop-test.true c.in_ok-coupling.ensures.read;
      count = simp length-append (omega arith);
      couplings = All-push (IsCoupling c.args.channels) c.loop.couplings.items c.in_ok-coupling.coupling c.loop.invariant.couplings c.in_ok-coupling.ensures.coupling;
      bytes = c.in_ok-coupling.ensures.bytes ∙ c.loop.invariant.bytes;
    })

pub returns-in_err-coupling-clause-read : goal.returns-in_err-coupling-clause-read
returns-in_err-coupling-clause-read c =
    let failed = err_from_is_err_and c.from_residual.result c.from_residual.ensures.1 in
    rw (failed.1, failed.2) (λ other. times_fails (coupling_at c.args.channels c.args.fault) c.loop.couplings.items c.args.count c.loop.counter c.loop.bits.left _ c.loop.invariant.read c.in_err-coupling.field-0.0 c.loop-test.true (c.in_err-coupling.ensures.read))
