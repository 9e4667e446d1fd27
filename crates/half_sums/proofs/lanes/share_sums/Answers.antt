use Rattle.std.proofs.Common.{◌∙◌, arith}
use Rattle.half_sums.proofs.lanes.share_sums.Goals as goal

pub returns : goal.returns
returns c a h = c.group_sums.ensures a (omega arith) ∙ c.keep_sounding-count.ensures.shares c.args.waves.now a
