use Rattle.std.proofs.Common.{◌≡◌, drop}
use Rattle.model_bits.specs.Bits.{bits_of}
use Rattle.model_setup.specs.HeaderPackets.{bytes_at}
use Rattle.head_packets.proofs.start.after_bytes.Given as goal

abbrev pub invariant-loop-byte : goal.invariant-loop-byte
invariant-loop-byte l = bytes_at (drop l.byte-index l.wanted) (bits_of l.rest) ≡ bytes_at l.fn.wanted (bits_of l.fn.bytes)
