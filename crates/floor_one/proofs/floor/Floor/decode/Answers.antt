use Rattle.std.proofs.Common.{◌≤◌, length}
use Rattle.floor_one.proofs.FinalLists.{make_a_curve}
use Rattle.floor_one.proofs.floor.Floor.decode.Goals as goal

pub returns-in-Some-clause-finals : goal.returns-in-Some-clause-finals
returns-in-Some-clause-finals c =
    let two : 2 ≤ length c.points.result.now = rw c.points.ensures.value c.points.ensures.points.two in
    make_a_curve c.args.self.now c.range.result c.points.result.now c.deref.result.now c.new.result two c.points.ensures.value c.new.ensures.finals c.new.ensures.small
