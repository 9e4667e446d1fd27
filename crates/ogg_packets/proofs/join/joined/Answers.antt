use Rattle.ogg_packets.proofs.JoinSteps.{piece_joined, pieces_joined}
use Rattle.ogg_packets.proofs.join.joined.Goals as goal

pub loop-piece-preserved : goal.loop-piece-preserved
loop-piece-preserved c = rw (c.in_ok-extend_from_slice.ensures.items) (piece_joined c.args.bytes.now c.items-piece-items.result.now c.loop-piece.piece-index (record { place = 0; len = 0 }) c.loop-piece.packet.items _ c.loop-piece-test.true c.loop-piece.invariant)

pub returns : goal.returns
returns c = rw (← c.items-piece-items.ensures) (pieces_joined c.args.bytes.now c.items-piece-items.result.now c.loop-piece.piece-index c.loop-piece.packet.items _ c.loop-piece-test.false c.loop-piece.invariant)
