use Rattle.std.proofs.Common.{◌-◌, arith}
use Rattle.floor_one.proofs.Widths.{few_bits}
use Rattle.floor_one.proofs.decoding.width.Goals as goal

pub returns-clause-few : goal.returns-clause-few
returns-clause-few c = few_bits (c.args.range - 1) (omega arith) (omega arith)
