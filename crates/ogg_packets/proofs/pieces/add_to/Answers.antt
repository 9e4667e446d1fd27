use Rattle.std.proofs.Common.{◌-◌, arith}
use Rattle.ogg_packets.proofs.PieceLaws.{adds_push, adds_grown_last}
use Rattle.ogg_packets.proofs.pieces.add_to.Goals as goal

pub returns-in-Some-clause-added : goal.returns-in-Some-clause-added
returns-in-Some-clause-added c =
    let grows = rw c.deref.ensures.value at c.in-Some.ensures in
    adds_grown_last c.args.items.now.items c.args.piece c.in-Some.longer (c.len-last.result - 1) (omega (arith, c.len-last.ensures, c.deref.ensures.len)) grows

pub returns-in_ok-push-in-None-clause-added : goal.returns-in_ok-push-in-None-clause-added
returns-in_ok-push-in-None-clause-added c = rw c.in_ok-push-in-None.ensures.items (adds_push c.args.items.now.items c.args.piece)
