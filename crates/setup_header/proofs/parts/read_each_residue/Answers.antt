use Rattle.std.proofs.Common.{◌∙◌, length-append, arith}
use Rattle.std.proofs.lemmas.Result.{err_from_is_err_and}
use Rattle.std.proofs.lemmas.List.Elements.{All-push}
use Rattle.model_bits.proofs.Each.{each_number_goes_on, each_number_fails, each_number_ends}
use Rattle.model_setup.specs.ResidueSetup.{FitsBooks}
use Rattle.model_setup.specs.SetupPacket.{numbered_residue_at}
use Rattle.setup_header.proofs.parts.read_each_residue.Goals as goal

pub loop-number-preserved : goal.loop-number-preserved
loop-number-preserved c =
    let n = c.loop-number.invariant.count in
    rw c.in_ok-push.ensures.items (record {
      read = each_number_goes_on (numbered_residue_at c.args.books.now) c.loop-number.residues.items c.args.count c.loop-number.number c.loop-number.bits.left _ c.loop-number.invariant.read c.in_ok-residue.residue c.read_residue.new.bits.left c.loop-number-test.true c.in_ok-residue.ensures.read;
      count = simp length-append (omega arith);
      fit = All-push (FitsBooks c.args.books.now) c.loop-number.residues.items c.in_ok-residue.residue c.loop-number.invariant.fit c.in_ok-residue.ensures.fits;
      bytes = c.in_ok-residue.ensures.bytes ∙ c.loop-number.invariant.bytes;
    })

pub returns-in_err-residue-clause-read : goal.returns-in_err-residue-clause-read
returns-in_err-residue-clause-read c =
    let failed = err_from_is_err_and c.from_residual.result c.from_residual.ensures.1 in
    rw (failed.1, failed.2) (λ other. each_number_fails (numbered_residue_at c.args.books.now) c.loop-number.residues.items c.args.count c.loop-number.number c.loop-number.bits.left _ c.loop-number.invariant.read c.in_err-residue.field-0.0 c.loop-number-test.true (c.in_err-residue.ensures.read other))

pub returns-clause-read : goal.returns-clause-read
returns-clause-read c = each_number_ends (numbered_residue_at c.args.books.now) c.loop-number.residues.items c.args.count c.loop-number.number c.loop-number.bits.left _ c.loop-number.invariant.read (omega arith)
