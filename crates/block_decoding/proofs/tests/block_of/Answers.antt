use Rattle.std.proofs.Common.{refl, arith}
use Rattle.block_decoding.proofs.tests.block_of.Goals as goal

pub decode-requires-clause-sizes : goal.decode-requires-clause-sizes
decode-requires-clause-sizes c = record {
  short = record { exponent = 6; at_least_64 = omega arith; at_most_8192 = omega arith; is_power = refl };
  long = record { exponent = 8; at_least_64 = omega arith; at_most_8192 = omega arith; is_power = refl };
  in_order = omega arith;
}
