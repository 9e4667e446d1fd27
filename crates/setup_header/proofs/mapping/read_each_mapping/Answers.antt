use Rattle.std.proofs.Common.{◌∙◌, length-append, arith}
use Rattle.std.proofs.lemmas.Result.{err_from_is_err_and}
use Rattle.std.proofs.lemmas.List.Elements.{All-push}
use Rattle.model_bits.proofs.Each.{each_number_goes_on, each_number_fails, each_number_ends}
use Rattle.model_setup.specs.SetupPacket.{mapping_at, IsMapping}
use Rattle.setup_header.proofs.mapping.read_each_mapping.Goals as goal

pub loop-number-preserved : goal.loop-number-preserved
loop-number-preserved c =
    let n = c.loop-number.invariant.count in
    rw c.in_ok-push.ensures.items (record {
      read = each_number_goes_on (mapping_at c.args.bounds.channels c.args.bounds.floors c.args.bounds.residues) c.loop-number.mappings.items c.args.count c.loop-number.number c.loop-number.bits.left _ c.loop-number.invariant.read c.in_ok-mapping.mapping c.read_mapping.new.bits.left c.loop-number-test.true c.in_ok-mapping.ensures.read;
      count = simp length-append (omega arith);
      mappings = All-push (IsMapping c.args.bounds.channels c.args.bounds.floors c.args.bounds.residues) c.loop-number.mappings.items c.in_ok-mapping.mapping c.loop-number.invariant.mappings c.in_ok-mapping.ensures.mapping;
      bytes = c.in_ok-mapping.ensures.bytes ∙ c.loop-number.invariant.bytes;
    })

pub returns-in_err-mapping-clause-read : goal.returns-in_err-mapping-clause-read
returns-in_err-mapping-clause-read c =
    let failed = err_from_is_err_and c.from_residual.result c.from_residual.ensures.1 in
    rw (failed.1, failed.2) (λ other. each_number_fails (mapping_at c.args.bounds.channels c.args.bounds.floors c.args.bounds.residues) c.loop-number.mappings.items c.args.count c.loop-number.number c.loop-number.bits.left _ c.loop-number.invariant.read c.in_err-mapping.field-0.0 c.loop-number-test.true (c.in_err-mapping.ensures.read other))

pub returns-clause-read : goal.returns-clause-read
returns-clause-read c = each_number_ends (mapping_at c.args.bounds.channels c.args.bounds.floors c.args.bounds.residues) c.loop-number.mappings.items c.args.count c.loop-number.number c.loop-number.bits.left _ c.loop-number.invariant.read (omega arith)
