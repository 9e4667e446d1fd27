use Rattle.std.proofs.Common.{◌∙◌, ◌≡◌, length, length-append, arith, IfSome}
use Rattle.std.specs.List.{All}
use Rattle.std.proofs.lemmas.Result.{err_from_is_err_and}
use Rattle.std.proofs.lemmas.List.Elements.{All-push}
use Rattle.model_bits.proofs.Each.{each_goes_on, each_fails}
use Rattle.model_setup.specs.ResidueSetup.{Serves, has_values}
use Rattle.model_setup.specs.ResidueReading.{cascade_at}
use Rattle.residues.proofs.residue.read_each_cascade.Goals as goal

pub returns-in_err-cascade-clause-read : goal.returns-in_err-cascade-clause-read
returns-in_err-cascade-clause-read c =
    let p = err_from_is_err_and c.from_residual.result c.from_residual.ensures.1 in
    let m = cascade_at c.args.books.now in
    let all = c.args.all_flags.now in
    rw (p.1, p.2) (λ other. each_fails m c.loop-flags.cascades.items all c.loop-flags.flags-index 0 c.loop-flags.bits.left _ c.loop-flags.invariant.read _ c.loop-flags-test.true (c.in_err-cascade.ensures.read other))

pub loop-flags-preserved : goal.loop-flags-preserved
loop-flags-preserved c =
    let m = cascade_at c.args.books.now in
    let all = c.args.all_flags.now in
    let n = c.loop-flags.invariant.count in
    let one = c.in_ok-cascade.ensures in
    rw c.in_ok-push.ensures.items (record {
      read = each_goes_on m c.loop-flags.cascades.items all c.loop-flags.flags-index 0 c.loop-flags.bits.left _ c.loop-flags.invariant.read c.in_ok-cascade.cascade c.read_cascade.new.bits.left c.loop-flags-test.true one.read;
      bytes = one.bytes ∙ c.loop-flags.invariant.bytes;
      count = simp length-append (omega arith);
      passes = All-push (λ cascade. length cascade ≡ 8) c.loop-flags.cascades.items c.in_ok-cascade.cascade c.loop-flags.invariant.passes one.passes;
      serves = All-push (All (λ named. IfSome named (Serves has_values c.args.books.now))) c.loop-flags.cascades.items c.in_ok-cascade.cascade c.loop-flags.invariant.serves one.serves;
    })
