use Rattle.std.proofs.Common.{◌+◌, ◌-◌, arith}
use Rattle.half_sums.proofs.LaneLemmas.{put_lane}
use Rattle.half_sums.proofs.lanes.put_lanes.Goals as goal

pub returns-clause-written : goal.returns-clause-written
returns-clause-written c i h =
    put_lane c.args.first (c.args.first + 16 - c.args.first) c.args.values.now c.args.sums i (omega arith) c.requires.lanes c.requires.room h
