use Rattle.std.proofs.Common.{take, flat_map}
use Rattle.model_bits.specs.Writing.{in_bits}
use Rattle.setup_fields.specs.Puts.{ArePut}
use Rattle.setup_fields.proofs.put_words.Given as goal

abbrev pub invariant-loop-number : goal.invariant-loop-number
invariant-loop-number l = ArePut l.fn.out l.out (flat_map (in_bits l.width) (take l.number-index l.numbers))
