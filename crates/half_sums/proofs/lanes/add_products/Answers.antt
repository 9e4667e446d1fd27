use Rattle.half_sums.proofs.LaneLemmas.{added_lane, length-added}
use Rattle.half_sums.proofs.lanes.add_products.Goals as goal

pub returns-clause-lanes : goal.returns-clause-lanes
returns-clause-lanes c = length-added c.args.sums c.args.left c.args.right c.requires.lanes c.requires.left_lanes c.requires.right_lanes

pub returns-clause-sums : goal.returns-clause-sums
returns-clause-sums c i h =
    added_lane c.args.sums c.args.left c.args.right c.requires.lanes c.requires.left_lanes c.requires.right_lanes i h
    (c.requires.sums i h) (c.requires.left i h) (c.requires.right i h)
