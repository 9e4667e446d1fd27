use Rattle.std.proofs.Common.{◌≡◌, ℕ, zero, ◌+◌, ◌++◌, [], ◌∷◌, Ok, ap, ◌∙◌, arith}
use Rattle.std.specs.Prelude.{replicate}
use Rattle.std.proofs.lemmas.Result.{err_from_is_err_and}
use Rattle.std.proofs.lemmas.List.{replicate-append-replicate}
use Rattle.model_bits.proofs.Each.{each_number_goes_on, each_number_fails, each_number_ends}
use Rattle.model_setup.specs.declared.setup.SetupCause.TheVariants.{Time}
use Rattle.model_setup.specs.declared.setup.SetupFault.TheVariants.{Bad}
use Rattle.model_setup.specs.SetupPacket.{zero_at}
use Rattle.setup_header.proofs.time_transforms.read_each_time_transform.Goals as goal

one_more : (n : ℕ) → replicate n zero ++ zero ∷ [] ≡ replicate (n + 1) zero
one_more n = replicate-append-replicate n 1 zero

pub loop-number-preserved : goal.loop-number-preserved
loop-number-preserved c =
    record {
      read = rw (← one_more c.loop-number.number) (each_number_goes_on (λ number. zero_at 16 (Bad Time number)) (replicate c.loop-number.number 0) c.args.count c.loop-number.number c.loop-number.bits.left _ c.loop-number.invariant.read 0 c.read_zero.new.bits.left c.loop-number-test.true (rw c.bad.ensures at c.in_ok-read_zero.ensures.read));
      bytes = c.in_ok-read_zero.ensures.bytes ∙ c.loop-number.invariant.bytes;
    }

pub returns-in_err-read_zero-clause-read : goal.returns-in_err-read_zero-clause-read
returns-in_err-read_zero-clause-read c =
    let failed = err_from_is_err_and c.from_residual.result c.from_residual.ensures.1 in
    rw (failed.1, failed.2) (each_number_fails (λ number. zero_at 16 (Bad Time number)) (replicate c.loop-number.number 0) c.args.count c.loop-number.number c.loop-number.bits.left _ c.loop-number.invariant.read c.in_err-read_zero.field-0.0 c.loop-number-test.true (rw c.bad.ensures at c.in_err-read_zero.ensures.read))

pub returns-clause-read : goal.returns-clause-read
returns-clause-read c =
    let all : c.loop-number.number ≡ c.args.count = omega arith in
    each_number_ends (λ number. zero_at 16 (Bad Time number)) (replicate c.loop-number.number 0) c.args.count c.loop-number.number c.loop-number.bits.left _ c.loop-number.invariant.read (omega arith) ∙ ap (λ n. Ok (replicate n 0, c.loop-number.bits.left)) all
