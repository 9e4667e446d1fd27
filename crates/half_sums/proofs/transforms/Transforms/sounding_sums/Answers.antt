use Rattle.std.proofs.Common.{◌∙◌, length}
use Rattle.half_sums.proofs.LaidOut.{HasLevels, has_levels}
use Rattle.half_sums.proofs.transforms.Transforms.sounding_sums.Goals as goal

pub lane_sums-requires-clause-least : goal.lane_sums-requires-clause-least
lane_sums-requires-clause-least c =
    let is : HasLevels (length c.args.spectrum.now) c.ilog2-levels.result =
    has_levels (length c.args.spectrum.now) c.ilog2-levels.result c.requires.size c.ilog2-levels.ensures.power_le c.ilog2-levels.ensures.next_power_gt in
    is.least

pub lane_sums-requires-clause-most : goal.lane_sums-requires-clause-most
lane_sums-requires-clause-most c = c.in_lanes.ensures c.if-in_lanes.true

pub lane_sums-requires-clause-spectrum : goal.lane_sums-requires-clause-spectrum
lane_sums-requires-clause-spectrum c =
    let is : HasLevels (length c.args.spectrum.now) c.ilog2-levels.result =
    has_levels (length c.args.spectrum.now) c.ilog2-levels.result c.requires.size c.ilog2-levels.ensures.power_le c.ilog2-levels.ensures.next_power_gt in
    is.is_power

pub lane_sums-requires-clause-sums : goal.lane_sums-requires-clause-sums
lane_sums-requires-clause-sums c =
    let is : HasLevels (length c.args.spectrum.now) c.ilog2-levels.result =
    has_levels (length c.args.spectrum.now) c.ilog2-levels.result c.requires.size c.ilog2-levels.ensures.power_le c.ilog2-levels.ensures.next_power_gt in
    c.requires.sums ∙ is.is_power

pub product_sums-requires-clause-least : goal.product_sums-requires-clause-least
product_sums-requires-clause-least c =
    let is : HasLevels (length c.args.spectrum.now) c.ilog2-levels.result =
    has_levels (length c.args.spectrum.now) c.ilog2-levels.result c.requires.size c.ilog2-levels.ensures.power_le c.ilog2-levels.ensures.next_power_gt in
    is.least

pub product_sums-requires-clause-most : goal.product_sums-requires-clause-most
product_sums-requires-clause-most c =
    let is : HasLevels (length c.args.spectrum.now) c.ilog2-levels.result =
    has_levels (length c.args.spectrum.now) c.ilog2-levels.result c.requires.size c.ilog2-levels.ensures.power_le c.ilog2-levels.ensures.next_power_gt in
    is.most

pub product_sums-requires-clause-spectrum : goal.product_sums-requires-clause-spectrum
product_sums-requires-clause-spectrum c =
    let is : HasLevels (length c.args.spectrum.now) c.ilog2-levels.result =
    has_levels (length c.args.spectrum.now) c.ilog2-levels.result c.requires.size c.ilog2-levels.ensures.power_le c.ilog2-levels.ensures.next_power_gt in
    is.is_power

pub product_sums-requires-clause-sums : goal.product_sums-requires-clause-sums
product_sums-requires-clause-sums c =
    let is : HasLevels (length c.args.spectrum.now) c.ilog2-levels.result =
    has_levels (length c.args.spectrum.now) c.ilog2-levels.result c.requires.size c.ilog2-levels.ensures.power_le c.ilog2-levels.ensures.next_power_gt in
    c.requires.sums ∙ is.is_power
