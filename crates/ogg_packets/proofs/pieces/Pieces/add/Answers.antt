use Rattle.ogg_packets.proofs.PieceLaws.{adds_to_only, adds_after_only}
use Rattle.ogg_packets.proofs.pieces.Pieces.add.Goals as goal

pub returns-in-Some-grown-clause-added : goal.returns-in-Some-grown-clause-added
returns-in-Some-grown-clause-added c = adds_to_only _ c.self.inside.items.items c.self.inside.only c.in-Some.last c.args.piece c.in-Some-grown.longer c.self.view_is c.in-Some.is c.in-Some-grown.ensures

pub returns-in_ok-push-in-None-grown-2-clause-added : goal.returns-in_ok-push-in-None-grown-2-clause-added
returns-in_ok-push-in-None-grown-2-clause-added c = adds_after_only _ c.self.inside.items.items c.clear.new.self.items c.push.new.self.items _ c.self.inside.only c.in-Some.last c.args.piece
    c.self.view_is c.in-Some.is c.clear.ensures.items c.in_ok-push-in-None-grown.ensures.items c.in_ok-push-in-None-grown-2.ensures.items
