use Rattle.half_sums.proofs.LaneLemmas.{wave_lane, length-wave_lanes}
use Rattle.half_sums.proofs.lanes.wave_lanes.Goals as goal

pub returns-clause-lanes : goal.returns-clause-lanes
returns-clause-lanes c = length-wave_lanes c.args.waves.now c.requires.room

pub returns-clause-values : goal.returns-clause-values
returns-clause-values c i h = wave_lane c.args.waves.now i c.requires.room c.requires.waves h
