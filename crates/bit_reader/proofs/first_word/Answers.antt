use Rattle.std.proofs.Common.{◌∙◌, arith, refl}
use Rattle.bit_reader.proofs.Words.{little_number-bits, little_number_some}
use Rattle.bit_reader.proofs.first_word.Goals as goal

pub returns-in-1-to-7 : goal.returns-in-1-to-7
returns-in-1-to-7 c = c.read_uint.ensures ∙ little_number_some _ 8 c.args.bytes.now refl (omega arith) (λ i. omega (arith, c.type_inv.bytes i))

pub returns-in_default : goal.returns-in_default
returns-in_default c = c.read_u64.ensures ∙ little_number-bits 8 c.args.bytes.now (omega arith) (λ i. omega (arith, c.type_inv.bytes i))
