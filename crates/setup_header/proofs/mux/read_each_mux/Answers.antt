use Rattle.std.proofs.Common.{◌∙◌, ◌<◌, length-append, arith}
use Rattle.std.proofs.lemmas.Result.{err_from_is_err_and}
use Rattle.std.proofs.lemmas.List.Elements.{All-push}
use Rattle.model_bits.proofs.Times.{times_goes_on, times_fails}
use Rattle.model_setup.specs.SetupPacket.{number_below_at}
use Rattle.setup_header.proofs.mux.read_each_mux.Goals as goal

pub loop-preserved : goal.loop-preserved
loop-preserved c =
    let n = c.loop.invariant.count in
    rw c.in_ok-push.ensures.items (record {
      read = times_goes_on (number_below_at 4 c.args.submaps c.args.fault) c.loop.mux.items c.args.channels c.loop.counter c.loop.bits.left _ c.loop.invariant.read c.in_ok-submap.submap c.read_number_below.new.bits.left c.loop-test.true c.in_ok-submap.ensures.read;
      count = simp length-append (omega arith);
      below = All-push (λ submap. submap < c.args.submaps) c.loop.mux.items c.in_ok-submap.submap c.loop.invariant.below c.in_ok-submap.ensures.below;
      bytes = c.in_ok-submap.ensures.bytes ∙ c.loop.invariant.bytes;
    })

pub returns-in_err-submap-clause-read : goal.returns-in_err-submap-clause-read
returns-in_err-submap-clause-read c =
    let failed = err_from_is_err_and c.from_residual.result c.from_residual.ensures.1 in
    rw (failed.1, failed.2) (λ other. times_fails (number_below_at 4 c.args.submaps c.args.fault) c.loop.mux.items c.args.channels c.loop.counter c.loop.bits.left _ c.loop.invariant.read c.in_err-submap.field-0.0 c.loop-test.true (c.in_err-submap.ensures.read))
