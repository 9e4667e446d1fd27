use Rattle.std.proofs.Common.{◌≡◌, ◌++◌, drop}
use Rattle.ogg_packets.specs.Pieces.{joined}
use Rattle.ogg_packets.proofs.join.joined.Given as goal

abbrev pub invariant-loop-piece : goal.invariant-loop-piece
invariant-loop-piece l = l.packet.items ++ joined l.bytes (drop l.piece-index l.piece-items) ≡ joined l.bytes l.piece-items
