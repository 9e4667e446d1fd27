use Rattle.std.proofs.Common.{None, arith}
use Rattle.model_bits.specs.Writing.{optional_byte}
use Rattle.setup_fields.proofs.Puts.{one_more}
use Rattle.residues.proofs.residue.write_cascade.Goals as goal

pub loop-book-preserved : goal.loop-book-preserved
loop-book-preserved c = one_more optional_byte c.args.cascade.now c.loop-book.book-index None (omega (arith, c.loop-book-test.true, c.told-cascade)) c.loop-book.invariant c.in_ok-put_book.ensures.put
