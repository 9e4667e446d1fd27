use Rattle.std.proofs.Common.{◌∙◌, ◌<◌, length-append, arith}
use Rattle.std.proofs.lemmas.Result.{err_from_is_err_and}
use Rattle.std.proofs.lemmas.List.Elements.{All-push}
use Rattle.model_bits.proofs.Each.{each_number_goes_on, each_number_fails, each_number_ends}
use Rattle.model_setup.specs.SetupPacket.{mode_at, Mode}
use Rattle.setup_header.proofs.mode.read_each_mode.Goals as goal

pub loop-number-preserved : goal.loop-number-preserved
loop-number-preserved c =
    let n = c.loop-number.invariant.count in
    rw c.in_ok-push.ensures.items (record {
      read = each_number_goes_on (mode_at c.args.mappings) c.loop-number.modes.items c.args.count c.loop-number.number c.loop-number.bits.left _ c.loop-number.invariant.read c.in_ok-mode.mode c.read_mode.new.bits.left c.loop-number-test.true c.in_ok-mode.ensures.read;
      count = simp length-append (omega arith);
      named = All-push (λ (mode : Mode). mode.mapping < c.args.mappings) c.loop-number.modes.items c.in_ok-mode.mode c.loop-number.invariant.named c.in_ok-mode.ensures.mapping;
      bytes = c.in_ok-mode.ensures.bytes ∙ c.loop-number.invariant.bytes;
    })

pub returns-in_err-mode-clause-read : goal.returns-in_err-mode-clause-read
returns-in_err-mode-clause-read c =
    let failed = err_from_is_err_and c.from_residual.result c.from_residual.ensures.1 in
    rw (failed.1, failed.2) (λ other. each_number_fails (mode_at c.args.mappings) c.loop-number.modes.items c.args.count c.loop-number.number c.loop-number.bits.left _ c.loop-number.invariant.read c.in_err-mode.field-0.0 c.loop-number-test.true (c.in_err-mode.ensures.read))

pub returns-clause-read : goal.returns-clause-read
returns-clause-read c = each_number_ends (mode_at c.args.mappings) c.loop-number.modes.items c.args.count c.loop-number.number c.loop-number.bits.left _ c.loop-number.invariant.read (omega arith)
