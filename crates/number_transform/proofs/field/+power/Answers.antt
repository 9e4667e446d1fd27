use Rattle.std.proofs.Common.{◌∙◌, arith}
use Rattle.number_transform.specs.declared.field.TheConstants.{PRIME}
use Rattle.number_transform.proofs.Powers.{even_power, odd_power}
use Rattle.number_transform.proofs.field.+power.Goals as goal

pub returns-then-exponent-eq0-2-clause-value : goal.returns-then-exponent-eq0-2-clause-value
returns-then-exponent-eq0-2-clause-value t c =
    even_power PRIME c.args.base c.args.exponent _ _ (omega arith)
    c.multiply.ensures.value c.power-square_part.ensures.value

pub returns-else-exponent-eq0-2-clause-value : goal.returns-else-exponent-eq0-2-clause-value
returns-else-exponent-eq0-2-clause-value t c =
    c.multiply-else-exponent-eq0-2.ensures.value
    ∙ odd_power PRIME c.args.base c.args.exponent _ _ (omega arith)
    c.multiply.ensures.value c.power-square_part.ensures.value
