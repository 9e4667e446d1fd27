use Rattle.half_sums.proofs.LaneLemmas.{magnitude_lane}
use Rattle.half_sums.proofs.lanes.magnitude_lanes.Goals as goal

pub returns-clause-values : goal.returns-clause-values
returns-clause-values c i h = magnitude_lane c.args.magnitude i c.requires h
