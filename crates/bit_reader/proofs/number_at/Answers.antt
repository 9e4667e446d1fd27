use Rattle.std.proofs.Common.{arith, ◌∙◌}
use Rattle.bit_reader.proofs.Words.{number_near}
use Rattle.bit_reader.proofs.number_at.Goals as goal

pub returns-then-count-le8-clause-number : goal.returns-then-count-le8-clause-number
returns-then-count-le8-clause-number c = c.digits.ensures.number ∙ number_near c.args.bytes.now c.args.skip c.args.count 2 c.first_pair.result (omega arith) c.first_pair.ensures

pub returns-else-count-le8-clause-number : goal.returns-else-count-le8-clause-number
returns-else-count-le8-clause-number c = c.digits-else-count-le8.ensures.number ∙ number_near c.args.bytes.now c.args.skip c.args.count 8 c.first_word.result (omega arith) c.first_word.ensures
