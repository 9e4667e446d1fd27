use Rattle.std.proofs.Common.{◌≡◌, get_or, ◌∙◌, arith, eq-eqb}
use Rattle.std.proofs.lemmas.Bool.{ne_eqb}
use Rattle.std.proofs.lemmas.Result.{err_from_is_err_and}
use Rattle.setup_header.proofs.Starts.{bytes_fail, bytes_differ, bytes_go_on, bytes_done}
use Rattle.setup_header.proofs.start.read_bytes.Goals as goal

pub returns-in_err-found-clause-read : goal.returns-in_err-found-clause-read
returns-in_err-found-clause-read c =
    let failed = err_from_is_err_and c.from_residual.result c.from_residual.ensures.1 in
    rw (failed.1, failed.2) (bytes_fail c.args.wanted.now c.loop-byte.byte-index c.loop-byte.bits.left _ c.loop-byte.invariant.read c.in_err-found.field-0.0 c.loop-byte-test.true c.in_err-found.ensures.read)

pub returns-then-found-from-clause-read : goal.returns-then-found-from-clause-read
returns-then-found-from-clause-read c =
    let other = rw c.from.ensures at c.if-found-from.true in
    bytes_differ c.args.wanted.now c.loop-byte.byte-index c.loop-byte.bits.left _ c.loop-byte.invariant.read c.in_ok-found.found c.read_byte.new.bits.left c.loop-byte-test.true c.in_ok-found.ensures.read (ne_eqb _ _ other)

pub loop-byte-preserved : goal.loop-byte-preserved
loop-byte-preserved c =
    let same : c.in_ok-found.found ≡ get_or c.args.wanted.now c.loop-byte.byte-index 0 = omega arith in
    record {
      read = bytes_go_on c.args.wanted.now c.loop-byte.byte-index c.loop-byte.bits.left _ c.loop-byte.invariant.read c.in_ok-found.found c.read_byte.new.bits.left c.loop-byte-test.true c.in_ok-found.ensures.read (eq-eqb _ _ same);
      bytes = c.in_ok-found.ensures.bytes ∙ c.loop-byte.invariant.bytes;
    }

pub returns-clause-read : goal.returns-clause-read
returns-clause-read c = bytes_done c.args.wanted.now c.loop-byte.byte-index c.loop-byte.bits.left _ c.loop-byte.invariant.read (omega arith)
