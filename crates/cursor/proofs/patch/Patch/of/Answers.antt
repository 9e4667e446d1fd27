use Rattle.std.proofs.Common.{arith}
use Rattle.cursor.proofs.patch.Patch.of.Goals as goal

pub invariant_of-result : goal.invariant_of-result
invariant_of-result c = (c.requires.some, omega arith, c.requires.whole)
