use Rattle.std.proofs.Common.{arith, ◌≤◌}
use Rattle.std.proofs.Math.Pow.{pow_mono}
use Rattle.head_packets.proofs.identification.read_blocks.Goals as goal

pub returns-clause-sizes : goal.returns-clause-sizes
returns-clause-sizes c =
    let range = c.if-not-are_blocks.ensures.range in
    let in_order : c.in_ok-short.short ≤ c.in_ok-long.long = range.1 in (
      record { exponent = c.in_ok-short.short; at_least_64 = omega (arith, range.0); at_most_8192 = omega (arith, range.1, range.2); is_power = c.size.ensures },
      record { exponent = c.in_ok-long.long; at_least_64 = omega (arith, range.0, range.1); at_most_8192 = range.2; is_power = c.size-2.ensures },
      rw (c.size.ensures, c.size-2.ensures) (pow_mono in_order),
    )
