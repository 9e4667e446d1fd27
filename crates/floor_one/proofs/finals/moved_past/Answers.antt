use Rattle.floor_one.proofs.Heights.{lowered_past}
use Rattle.floor_one.proofs.finals.moved_past.Goals as goal

pub returns-else-low_room-high_room-clause-value : goal.returns-else-low_room-high_room-clause-value
returns-else-low_room-high_room-clause-value c =
    lowered_past c.args.height c.from-y.result c.from.result c.args.y c.args.range c.requires.height c.from-y.ensures c.from.ensures c.requires.y c.requires.range.few c.if-low_room-high_room.false
