use Rattle.std.proofs.Common.{add-zero}
use Rattle.model_bits.proofs.BitList.{none_left}
use Rattle.bit_reader.proofs.Bits.finish.Goals as goal

pub returns-clause-left : goal.returns-clause-left
returns-clause-left c = rw add-zero (none_left c.self.inside.bytes.now)
