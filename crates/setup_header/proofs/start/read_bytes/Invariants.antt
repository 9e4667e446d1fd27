use Rattle.std.proofs.Common.{◌≡◌, drop}
use Rattle.model_setup.specs.HeaderPackets.{bytes_at}
use Rattle.setup_header.proofs.start.read_bytes.Given as goal

abbrev pub invariant-loop-byte : goal.invariant-loop-byte
invariant-loop-byte l = record {
  read : bytes_at (drop l.byte-index l.wanted) l.bits.left ≡ bytes_at l.fn.wanted l.fn.bits.left;
  bytes : l.bits.total ≡ l.fn.bits.total;
}
