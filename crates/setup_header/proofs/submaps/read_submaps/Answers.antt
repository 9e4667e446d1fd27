use Rattle.std.proofs.Common.{◌∙◌, length-append, arith}
use Rattle.std.proofs.lemmas.Result.{err_from_is_err_and}
use Rattle.std.proofs.lemmas.List.Elements.{All-push}
use Rattle.model_bits.proofs.Times.{times_goes_on, times_fails}
use Rattle.model_setup.specs.SetupPacket.{submap_at, IsSubmap}
use Rattle.setup_header.proofs.submaps.read_submaps.Goals as goal

pub loop-preserved : goal.loop-preserved
loop-preserved c =
    let n = c.loop.invariant.count in
    rw c.in_ok-push.ensures.items (record {
      read = times_goes_on (submap_at c.args.bounds.floors c.args.bounds.residues c.args.number) c.loop.submaps.items c.args.count c.loop.counter c.loop.bits.left _ c.loop.invariant.read c.in_ok-submap.submap c.read_submap.new.bits.left c.loop-test.true c.in_ok-submap.ensures.read;
      count = simp length-append (omega arith);
      submaps = All-push (IsSubmap c.args.bounds.floors c.args.bounds.residues) c.loop.submaps.items c.in_ok-submap.submap c.loop.invariant.submaps c.in_ok-submap.ensures.submap;
      bytes = c.in_ok-submap.ensures.bytes ∙ c.loop.invariant.bytes;
    })

pub returns-in_err-submap-clause-read : goal.returns-in_err-submap-clause-read
returns-in_err-submap-clause-read c =
    let failed = err_from_is_err_and c.from_residual.result c.from_residual.ensures.1 in
    rw (failed.1, failed.2) (λ other. times_fails (submap_at c.args.bounds.floors c.args.bounds.residues c.args.number) c.loop.submaps.items c.args.count c.loop.counter c.loop.bits.left _ c.loop.invariant.read c.in_err-submap.field-0.0 c.loop-test.true (c.in_err-submap.ensures.read))
