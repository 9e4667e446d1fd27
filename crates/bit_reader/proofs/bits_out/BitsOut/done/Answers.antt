use Rattle.bit_reader.proofs.Puts.{bytes_filled}
use Rattle.bit_reader.proofs.bits_out.BitsOut.done.Goals as goal

pub returns : goal.returns
returns c =
    let s = c.self.inside in
    rw (← c.self.view_is) (bytes_filled s.bytes.items s.byte s.bit c.self.invariant.0 c.self.invariant.1 c.self.invariant.2)
