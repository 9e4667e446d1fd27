use Rattle.std.proofs.Common.{◌∙◌, arith}
use Rattle.bit_reader.proofs.Words.{little_number-bits, little_number_some}
use Rattle.bit_reader.proofs.first_pair.Goals as goal

pub returns-in-1 : goal.returns-in-1
returns-in-1 c = c.read_uint.ensures ∙ little_number_some 1 2 c.args.bytes.now (omega arith) (omega arith) (λ i. omega (arith, c.type_inv.bytes i))

pub returns-in_default : goal.returns-in_default
returns-in_default c = c.from.ensures ∙ c.read_u16.ensures ∙ little_number-bits 2 c.args.bytes.now (omega arith) (λ i. omega (arith, c.type_inv.bytes i))
