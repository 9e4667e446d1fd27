use Rattle.std.proofs.Common.{arith}
use Rattle.bit_reader.proofs.Words.{masked, masked_fits}
use Rattle.bit_reader.proofs.digits.Goals as goal

pub overflow_cast-result-2 : goal.overflow_cast-result-2
overflow_cast-result-2 c = omega (arith, masked_fits c.args.skip c.args.count c.args.word c.requires.bits)

pub returns-clause-number : goal.returns-clause-number
returns-clause-number c = masked c.args.skip c.args.count c.args.word c.requires.bits
