use Rattle.std.proofs.Common.{arith, length-drop}
use Rattle.model_bits.proofs.BitList.{length-bits_of}
use Rattle.bit_reader.proofs.Bits.at.Goals as goal

pub returns : goal.returns
returns c = rw (← c.self.view_is) (simp (length-drop, length-bits_of) (omega arith))
